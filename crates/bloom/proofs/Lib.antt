mod Setting
mod Covering
mod Putting
mod Walking
