-- How the text in a buffer grows: what a page says of its bytes, and what the contract of the whole report cites.
use Rattle.std.specs.Prelude.{ℕ, ◌+◌, ◌≤◌, ◌≡◌, List, ◌++◌, length, take}

-- There is room for a text from `at` on.
pub record Room (page : List ℕ) (at : ℕ) (text : List ℕ) : Type 0 where
  pub fits : at + length text ≤ length page

-- A text was printed from `at` on, up to `next`: what stood before it stands there still.
pub record Appended (before after : List ℕ) (at next : ℕ) (text : List ℕ) : Type 0 where
  pub ends : next ≡ at + length text
  pub size : length after ≡ length before
  pub shows : take next after ≡ take at before ++ text
