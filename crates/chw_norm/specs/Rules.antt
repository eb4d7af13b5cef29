-- The rules that a run tries, in their order.
pub use Rattle.trials.specs.Trials.{built}
