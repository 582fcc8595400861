mod Cycles
mod LinesLeft
mod Standing
