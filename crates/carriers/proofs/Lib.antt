mod Reading
mod Carrying
mod Determined
