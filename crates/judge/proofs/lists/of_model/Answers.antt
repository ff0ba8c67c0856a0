-- `judge::lists::of_model` meets its contract: the numbers of the whole table, which compute, are the models. Assumes nothing.
use mathlib.Core.List.{List}
use lib.ListN.{get_or-map}
use Rattle.std.proofs.Common.{Bor}
use Rattle.consistency.specs.declared.Predicate.{Predicate}
use Rattle.judge.specs.Lists.{numbers_of}
use Rattle.judge.proofs.lists.of_model.Goals as goal

pub returns : goal.returns
returns c = rw (← get_or-map (λ (b : Bor (List Predicate)). numbers_of b.now))
