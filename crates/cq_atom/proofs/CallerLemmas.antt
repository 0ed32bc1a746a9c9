-- What a caller cites of names where they come first: they are a list to which each name is added that is not there yet.
pub use Rattle.cq_atom.specs.Steps.Variables.{with_variable}
pub use Rattle.cq_atom.proofs.Firsts.{new_to, fold-firsts, firsts-fold}
