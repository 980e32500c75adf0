-- The heads that a call takes, as model's definitions name them. Assumes nothing.
unfoldable pub use Rattle.command.specs.Names.{wanted_of}
