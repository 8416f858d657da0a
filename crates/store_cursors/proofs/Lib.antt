mod Concatenating
mod Stepping
mod Entering
mod ChildMoves
mod Arms
mod MemoryArm
mod TablesArm
mod Shown
