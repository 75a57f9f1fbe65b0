mod AddingLemmas
