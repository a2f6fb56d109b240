pub use Rattle.clap.specs.Words as ClapWords
pub mod Options
pub mod Commands
