mod CoverLemmas
mod SummaryLemmas
