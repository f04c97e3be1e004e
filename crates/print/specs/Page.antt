-- How a page fills: what the contracts of the printing functions cite.
use Rattle.std.specs.Prelude.{ℕ, ◌+◌, ◌≤◌, ◌≡◌, List, length}
use Rattle.print.specs.Put.{put}
use Rattle.print.specs.declared.page.Page.{Page}

-- There is room for a text.
pub record Room (page : Page) (text : List ℕ) : Type 0 where
  pub fits : page.at + length text ≤ length page.bytes.now

-- A text was printed after what stood there: the same buffer, and no other byte of it is changed.
pub record Printed (before after : Page) (text : List ℕ) : Type 0 where
  pub same : after.bytes.ghost_name ≡ before.bytes.ghost_name
  pub ends : after.at ≡ before.at + length text
  pub shows : after.bytes.now ≡ put before.at text before.bytes.now
