-- Each item that came may be kept, and one did: otherwise the sets were the same.
use Rattle.std.proofs.Common.{refl, inl, inr, rules}
use Rattle.keeping.specs.laws.Keeping.{added_weaker}
use Rattle.keeping.proofs.keeping.keep_more.Goals.{else-kept-g-via-then-kept-g+else-kept_orderings-g, else-kept-g-via-else-kept-g}
use Rattle.keeping.proofs.keeping.keep_more.Goals as goal

pub returns : goal.returns
returns c = record {
  begins = c.ends_of-begins.result;
  ends = c.ends_of-ends.result;
  begin = c.ends_of-begins.ensures;
  end = c.ends_of-ends.ensures;
  option = added_weaker (λ j l p. search rules) c.keep_open-kept.ensures;
  ordering = added_weaker (λ j l p. search rules) c.keep_open-kept_orderings.ensures;
  dropped = refl;
  dropped_orderings = refl;
  more = elim c.else-kept-g.branch [
    | else-kept-g-via-then-kept-g+else-kept_orderings-g w ↦ inr w.if-kept_orderings-g.false
    | else-kept-g-via-else-kept-g w ↦ inl w.if-kept-g.false
  ];
}
