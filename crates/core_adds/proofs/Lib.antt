pub mod ListSteps
pub mod OutEdges
pub mod EdgeGifts
pub mod ItemAdds
pub mod PieceAdds
