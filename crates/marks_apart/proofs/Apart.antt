-- The mark does not depend on the result: change request M-110. Assumes nothing.
use Rattle.std.specs.Prelude.{ℕ, ◌≡◌, List, length}
use Rattle.vram.specs.Board.{Board}
use Rattle.vram.specs.High.{Twins}
use Rattle.palette.specs.declared.Palette.{Palette}
use Rattle.panel.specs.declared.Width.{Width}
use Rattle.panel.specs.Panel.{part_at}
use Rattle.panel.proofs.HighLaws.{answer_twins, pixel_twins}
use Rattle.marks_apart.specs.Ways.{Way, ran}
use Rattle.marks_apart.specs.WayLaws.{way_twins}
use Rattle.marks_apart.specs.Apart.{Unaltered}

module _ (way : Way) (width : Width) (palette : Palette) (table : List ℕ) (clocks blank : ℕ) where
  -- for every two such boards and every two buffers of one length, whether the list and the run are refused or not
  pub marks_apart : (a b : Board) → Twins a b → (out out' : List ℕ) → length out ≡ length out' → Unaltered way width palette table clocks blank a b out out'
  marks_apart a b t out out' l =
      let o = way_twins t way in
      let k = o.after in
      let s = (ran way b).after.state in
      record {
        given = o.given;
        rows = o.rows;
        boards = k;
        answer = rw k.state (answer_twins (part_at width) s palette table clocks blank k.serial out out' l);
        colours = rw k.state (pixel_twins (part_at width) s palette table clocks blank k.serial out out' l);
      }
