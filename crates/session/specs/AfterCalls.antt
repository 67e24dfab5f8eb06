-- What C's calls leave of persistence, and a fill or a page after them: change requests M-111 and M-109. Assumes nothing.
use Rattle.std.specs.Prelude.{ℕ, ◌≡◌, refl, List, [], ◌∷◌, ◌≢◌}
use Rattle.std.proofs.Common.{sym, subst}
use Rattle.vram.specs.State.{fresh}
use Rattle.planner.specs.Fill.{fill}
use Rattle.planner.specs.Calls.{fill_call}
use Rattle.planner.proofs.AfterList.{plain_13}
use Rattle.page.specs.Calls.{page_call}
use Rattle.page.proofs.CallLaws.{page_13}
use Rattle.registers.specs.declared.Registers.{Registers}
use Rattle.registers.specs.State.{handed}
use Rattle.registers.specs.StateLaws.{handed_plain}
use Rattle.registers.specs.ListLaws.{list_plain}
use Rattle.marks_c.specs.CallLaws.{marked_plain}
use Rattle.pencil_c.specs.CallLaws.{pencil_plain, pencil_marked_plain}
use Rattle.pieces_c.specs.Cuts.{pieces_plain}
use Rattle.host.specs.CallLaws.{clock_plain, panel_plain}
use Rattle.session.specs.Session.{Call, list, marked, pencil, pencil_marked, pieces, clock, panel, after, session, Settled, AllSettled}

-- ---- no call, accepted or refused, makes a mask persistent that was not; but a list in pieces, which here has no other call between its
-- pieces, has to be accepted, since the fields before a refused one stay drawn, its mask load among them

module _ (s : Registers) (e : s.persistent ≡ 0) where
  after_plain : (c : Call) → Settled c s → (after c s).persistent ≡ 0
  after_plain (list memory serial bytes) t = list_plain s e memory serial bytes
  after_plain (marked memory serial marks bytes) t = marked_plain s e memory serial marks bytes
  after_plain (pencil memory serial bytes) t = pencil_plain s e memory serial bytes
  after_plain (pencil_marked memory serial marks bytes) t = pencil_marked_plain s e memory serial marks bytes
  after_plain (pieces memory serial cutting) t = pieces_plain cutting s memory serial e t
  after_plain (clock serial) t = clock_plain s e serial
  after_plain (panel parts serial palette table clocks blank out) t = panel_plain s e parts serial palette table clocks blank out

pub session_plain : (calls : List Call) (s : Registers) → s.persistent ≡ 0 → AllSettled calls s → (session calls s).persistent ≡ 0
session_plain [] s e t = e
session_plain (c ∷ cs) s e t = session_plain cs (after c s) (after_plain s e c t.0) t.1

-- ---- so a fill that is given the state's own byte is not refused with 13, from a fresh state on

pub fill_after : (calls : List Call) (s : Registers) → s.persistent ≡ 0 → AllSettled calls s → (rows first_row end_row first_column end_column mask colour : ℕ) (out : List ℕ)
    → (fill_call (fill rows first_row end_row first_column end_column mask colour (session calls s).persistent) out).answer.number ≢ 13
fill_after calls s e t rows first_row end_row first_column end_column mask colour out =
    plain_13 (fill rows first_row end_row first_column end_column mask colour (session calls s).persistent) out (session_plain calls s e t)

pub never_13 : (calls : List Call) → AllSettled calls (handed fresh) → (rows first_row end_row first_column end_column mask colour : ℕ) (out : List ℕ)
    → (fill_call (fill rows first_row end_row first_column end_column mask colour (session calls (handed fresh)).persistent) out).answer.number ≢ 13
never_13 calls t = fill_after calls (handed fresh) (handed_plain fresh refl) t

-- and no page either

pub page_after : (calls : List Call) (s : Registers) → s.persistent ≡ 0 → AllSettled calls s → (rows : ℕ) (rectangles out : List ℕ)
    → (page_call rows (session calls s).persistent rectangles out).answer.number ≢ 13
page_after calls s e t rows rectangles out =
    subst (λ (n : ℕ). (page_call rows n rectangles out).answer.number ≢ 13) (sym (session_plain calls s e t)) (page_13 rows rectangles out)

pub page_never_13 : (calls : List Call) → AllSettled calls (handed fresh) → (rows : ℕ) (rectangles out : List ℕ)
    → (page_call rows (session calls (handed fresh)).persistent rectangles out).answer.number ≢ 13
page_never_13 calls t = page_after calls (handed fresh) (handed_plain fresh refl) t
