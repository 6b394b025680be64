-- Memory that is lent for a function's own use. What it holds before plays no part, and what it holds afterwards is
-- free: only its length is kept. A contract that cites this leaves nothing else of its lent memory unsaid.
use Rattle.std.specs.Prelude.{◌≡◌, List, length}

pub record Scratch {A : Type 0} (old new : List A) : Type 0 where
  pub long : length new ≡ length old
