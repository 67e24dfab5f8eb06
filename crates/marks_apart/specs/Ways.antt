-- The ways to run a list: on either engine, without and with marks of rows, and in pieces. What each is is the contract of the calls named.
-- Assumes nothing.
use Rattle.std.specs.Prelude.{ℕ, List, [], ◌∷◌, ◌++◌}
use Rattle.vram.specs.Board.{Board, effect}
use Rattle.vram.specs.Step.{Engine}
use Rattle.list.specs.Meaning.{Bad}
use Rattle.list.specs.Meaning.{run_call_by}
use Rattle.marks.specs.Calls.{run_call_by as marked_call_by}
use Rattle.pencil.specs.Pencil.{pencil}
use Rattle.pieces.specs.Cutting.{cut_answers, cut_call}

-- the two engines
pub data Which : Type 0 where
  fast : Which
  plain : Which

unfoldable pub engine_of : Which → Engine
engine_of fast = effect
engine_of plain = pencil

pub data Way : Type 0 where
  -- `list::run`, `pencil::run`
  whole : (engine : Which) (list : List ℕ) → Way
  -- `marks::run`, `pencil::run_marked`
  marked : (engine : Which) (rows list : List ℕ) → Way
  -- `pieces::take` for each piece, and then `pieces::end`
  pieces : (cutting : List (List ℕ)) → Way

-- number and place that each call gives back, the marks of rows afterwards, none where none are lent, and the board afterwards
pub record Outcome : Type 0 where
  pub given : List Bad
  pub rows : List ℕ
  pub after : Board

unfoldable pub ran : Way → Board → Outcome
ran (whole engine list) b = let o = run_call_by (engine_of engine) list b in record { given = o.given ∷ []; rows = []; after = o.after }
ran (marked engine rows list) b =
    let o = marked_call_by (engine_of engine) list b rows in
    record { given = o.given ∷ []; rows = o.marks; after = o.after }
ran (pieces cutting) b =
    let o = cut_call cutting b in
    record { given = cut_answers cutting b ++ o.given ∷ []; rows = []; after = o.after }
