-- One charge, as the code makes it and gives it back.
use Rattle.std.specs.Prelude.{◌≡◌, List, ℕ, ◌≤◌, T}
use Rattle.rules.specs.laws.search.Items.{closes}
use Rattle.rules.specs.laws.search.Charged.{Charge}
use Rattle.rows.specs.Sets.{cell}
use Rattle.numbered.specs.Items.{ends_only}
use Rattle.links.specs.Links.{members, AllNamed}
use Rattle.residual.specs.Taken.{residual_in, LeftIn}

-- Nothing is charged and nothing taken, or the chain closes by the table and is charged with e.
pub data Charges (known firsts seconds : List ℕ) (n m : ℕ) (chain : List ℕ) (k e : ℕ) (options orderings options' orderings' : List ℕ) : Type 0 where
  idle : e ≡ 0 → options' ≡ options → orderings' ≡ orderings → Charges known firsts seconds n m chain k e options orderings options' orderings'
  charged : AllNamed chain k n m → T (closes (ends_only n m firsts seconds) (cell known) (members chain k))
      → Charge (ends_only n m firsts seconds) (members chain k) e (residual_in options orderings) (residual_in options' orderings')
      → Charges known firsts seconds n m chain k e options orderings options' orderings'

pub record ChargedAs (known firsts seconds : List ℕ) (n m : ℕ) (chain : List ℕ) (k e : ℕ) (options orderings options' orderings' : List ℕ) : Type 0 where
  pub charges : Charges known firsts seconds n m chain k e options orderings options' orderings'
  pub few : e ≤ 4259775
  pub left_in : LeftIn n m options' orderings'
