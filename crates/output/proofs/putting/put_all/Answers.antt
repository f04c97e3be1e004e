-- A write puts its bytes after those that came before it; a write that fails puts none.
use Rattle.std.proofs.Common.{◌≡◌, ℕ, ◌+◌, ◌-◌, List, ◌++◌, rules, length, take, drop, sym, ap, ◌∙◌, subst, take_all}
use Rattle.std.proofs.lemmas.List.{take_rest}
use Rattle.std.specs.Io.KnownBytes.{Appends}
use Rattle.std.proofs.KnownBytes.{Appends-kept, Appends-nil, Appends-trans}
use lib.Seq.{take-add}
use Rattle.output.proofs.putting.put_all.Goals as goal
use Rattle.output.proofs.putting.put_all.Goals.{in-Ok, in-Err+else-ne}

-- the first a bytes, and then n of those that follow them
take_more : (a n : ℕ) (text : List ℕ) → take a text ++ take n (take (length text - a) (drop a text)) ≡ take (a + n) text
take_more a n text = sym (take-add a n text ∙ ap (λ l. take a text ++ take n l) (sym (take_rest text a)))

pub loop-init : goal.loop-init
loop-init g c = record { within = search rules; gained = Appends-nil _ }

pub loop-preserved : goal.loop-preserved
loop-preserved g c =
    let before = c.loop.invariant in
    elim c.match-write.branch [
      | in-Ok w ↦ record {
        within = search rules;
        gained = subst (Appends _ _) (take_more c.loop.written w.in-Ok.n c.args.text.now ∙ ap (λ k. take k c.args.text.now) (sym w.written-is)) (Appends-trans _ _ _ _ _ before.gained w.in-Ok.ensures.bytes);
      }
      | in-Err+else-ne w ↦ record {
        within = search rules;
        gained = subst (Appends _ _) (ap (λ k. take k c.args.text.now) (sym w.written-is)) (Appends-kept _ _ _ _ before.gained w.in-Err.ensures.bytes);
      }
    ]

pub returns-then-written-text-clause-whole : goal.returns-then-written-text-clause-whole
returns-then-written-text-clause-whole g c =
    subst (Appends _ _) (take_all c.loop.written c.args.text.now c.if-written-text.true) c.loop.invariant.gained

pub returns-in-Ok-eq0-clause-part : goal.returns-in-Ok-eq0-clause-part
returns-in-Ok-eq0-clause-part g c =
    let before = c.loop.invariant in
    let some = Appends-trans _ _ _ _ _ before.gained c.in-Ok-eq0.ensures.bytes in
    (c.loop.written + c.in-Ok-eq0.field-0, search rules, subst (Appends _ _) (take_more c.loop.written c.in-Ok-eq0.field-0 c.args.text.now) some)

pub returns-then-ne-clause-part : goal.returns-then-ne-clause-part
returns-then-ne-clause-part g c =
    let before = c.loop.invariant in
    (c.loop.written, before.within, Appends-kept _ _ _ _ before.gained c.in-Err.ensures.bytes)

pub returns-clause-part : goal.returns-clause-part
returns-clause-part g c = (c.loop.written, c.loop.invariant.within, c.loop.invariant.gained)
