-- What a chart's arrays hold: few enough options and orderings with a weight for each, and whatever some sheet's lines say.
use Rattle.std.specs.Prelude.{◌≡◌, List, ℕ, ◌≤◌, ◌<◌, length, get_or}
use Rattle.rules.specs.Lines.{Lines}
use Rattle.rules.specs.Subscription.{Subscription, subscription, Proper}
use Rattle.graph.specs.Shown.{Shows}

-- Few enough options and orderings, and a weight for each.
pub record HasWeights (n m : ℕ) (ws bs : List ℕ) : Type 0 where
  pub few_options : n ≤ 32
  pub few_orderings : m ≤ 64
  pub weight_size : n ≤ length ws
  pub ordering_weight_size : m ≤ length bs

abbrev pub weight_in : List ℕ → ℕ → ℕ
weight_in ws i = get_or ws i 0

-- The arrays hold the weights of a subscription.
pub record Weighs (v : Subscription) (n m : ℕ) (ws bs : List ℕ) : Type 0 where
  pub weight : (i : ℕ) → i < n → v.weight i ≡ weight_in ws i
  pub ordering_weight : (u : ℕ) → u < m → v.ordering_weight u ≡ weight_in bs u

-- The arrays show a sheet's lines: counts, ends of orderings, the catalogue's rows and weights.
pub record ShowLines (s : Lines) (n m : ℕ) (firsts seconds rows ws bs : List ℕ) : Type 0 where
  pub options : length s.options ≡ n
  pub orderings : length s.orderings ≡ m
  pub proper : Proper s
  pub shows : Shows (subscription s) n m firsts seconds rows
  pub weighs : Weighs (subscription s) n m ws bs

-- They are those of some sheet.
pub record OfSomeSheet (n m : ℕ) (firsts seconds rows ws bs : List ℕ) : Type 0 where
  pub lines : Lines
  pub show : ShowLines lines n m firsts seconds rows ws bs
