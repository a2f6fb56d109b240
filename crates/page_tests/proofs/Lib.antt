mod Readied
mod Stepped
