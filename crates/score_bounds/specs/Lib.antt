pub mod RangesAndCuts
pub mod ScoreTexts
