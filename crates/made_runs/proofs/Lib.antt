mod RankProgram
mod RankLimits
mod LineNumbers
mod RunSteps
mod MadeSteps
