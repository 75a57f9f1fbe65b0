mod NameLemmas
mod CountLemmas
mod RankLemmas
mod RisingLemmas
mod AddedLemmas
mod LineLemmas
mod FitLemmas
