pub mod RankingLemmas
