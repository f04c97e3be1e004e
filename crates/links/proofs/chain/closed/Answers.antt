-- Every item but the last is linked to the next, and the last to the first.
use Rattle.std.proofs.Common.{rules, sym, ◌∙◌, length, ◌-◌, arith}
use Rattle.std.proofs.iter.runs.Sources.{ranges}
use Rattle.links.specs.laws.Chain.{chain_closes}
use Rattle.links.proofs.chain.closed.Goals as goal

pub returns-then-all : goal.returns-then-all
returns-then-all c = record { told = λ e. chain_closes _ _ _ _ _ _ _ (length c.args.chain.now - 1) (omega arith) (record { each = λ q l. search (rules, ranges) }) (sym c.is_linked.ensures ∙ e) }
