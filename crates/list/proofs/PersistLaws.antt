-- What a list leaves of persistence: change request M-111. Assumes nothing.
use Rattle.std.specs.Prelude.{◌≡◌, refl, Bool, true, false, cond, List, [], ◌∷◌, ℕ, ◌+◌, eqb}
use Rattle.std.proofs.Common.{sym, ap, ◌∙◌, eqb-true}
use Rattle.std.proofs.lemmas.Bool.{eqb-false}
use Rattle.vram.specs.declared.Cycle.{Cycle}
use Rattle.vram.specs.Board.{Board}
use Rattle.vram.specs.Kinds.{tag_of, persists}
use Rattle.vram.specs.Step.{step, run}
use Rattle.vram.proofs.KeptLaws.{step_persistent}
use Rattle.vram.proofs.CaseLaws.{run_none, run_next, persists_tag}
use Rattle.list.specs.Meaning.{Bad}
use Rattle.std.specs.Prelude.{Option}
use Rattle.std.specs.Prelude.Option.{None, Some}
use Rattle.list.specs.Fields.{Field, Reads, Unreadable, size_of, fields}
use Rattle.list.specs.Open.{opens, open_by, open_after, open_of, is_open}
use Rattle.list.proofs.OpenLaws.{open_nil, open_next, open_from}
use Rattle.list.specs.Meaning.{cycles, cycles_of, left_behind, verdict_of, run_call}
use Rattle.list.specs.Joined.{decided}
use Rattle.list.proofs.PerformLaws.{Passes, first_acts, others_pass, unreadable_refused, list_passes}
use Rattle.list.proofs.CallLaws.{verdict_left, accepted_closed, call_runs, call_refuses}

-- ---- the mask is persistent where a mask load is open

after_cycle : (at : ℕ) (c : Cycle) (left : Option ℕ) → persists c (is_open left) ≡ is_open (opens (tag_of c) at left)
unfolding opens
after_cycle at c left = persists_tag c (is_open left) ∙ go (eqb (tag_of c) 4) (eqb (tag_of c) 5)
  where
    go : (p q : Bool) → cond p true (cond q false (is_open left)) ≡ is_open (cond p (Some at) (cond q None left))
    go true q = refl
    go false true = refl
    go false false = refl

-- if it was so before some fields that pass, it is so after them
pub open_persistent : (at : ℕ) (fs : List Field) (left : Option ℕ) (b : Board) → Passes at fs b → b.state.persistent ≡ is_open left
    → (run (cycles fs) b).state.persistent ≡ is_open (open_after at fs left)
unfolding cycles open_by
open_persistent at [] left b a e = ap (λ (x : Board). x.state.persistent) (run_none step b) ∙ e ∙ ap is_open (sym (open_nil at left))
open_persistent at (Reads c n ∷ fs) left b a e =
    ap (λ (x : Board). x.state.persistent) (run_next step c (cycles fs) b)
    ∙ open_persistent (at + size_of (Reads c n)) fs (opens (tag_of c) at left) (step c b) (others_pass at c n fs b a)
    (step_persistent b c (first_acts at c n fs b a) ∙ ap (persists c) e ∙ after_cycle at c left)
    ∙ ap is_open (sym (open_next at (Reads c n) fs left))
open_persistent at (Unreadable ∷ fs) left b a e = absurd (unreadable_refused at fs b a)

-- so fields that pass, one of them a mask load or a reset refresh, leave the mask persistent just where a mask load of theirs is open; others
-- leave persistence as it was
pub fields_persistent : (at : ℕ) (fs : List Field) (b : Board) → Passes at fs b
    → (run (cycles fs) b).state.persistent ≡ cond (decided fs) (is_open (open_after at fs None)) b.state.persistent
fields_persistent at fs b a = go b.state.persistent refl
  where
    chosen : (d : Bool) (o left : Option ℕ) → is_open (cond d o left) ≡ cond d (is_open o) (is_open left)
    chosen true o left = refl
    chosen false o left = refl

    from : (left : Option ℕ) → b.state.persistent ≡ is_open left
        → (run (cycles fs) b).state.persistent ≡ cond (decided fs) (is_open (open_after at fs None)) (is_open left)
    from left e = open_persistent at fs left b a e ∙ ap is_open (open_from at fs left) ∙ chosen (decided fs) (open_after at fs None) left

    go : (t : Bool) → b.state.persistent ≡ t → (run (cycles fs) b).state.persistent ≡ cond (decided fs) (is_open (open_after at fs None)) t
    go true e = from (Some 0) e
    go false e = from None e

-- ---- a list

is_open_number : (left : Option ℕ) → eqb (left_behind left).number 20 ≡ is_open left
unfolding left_behind
is_open_number None = refl
is_open_number (Some place) = refl

module _ (list : List ℕ) (b : Board) where
  -- an accepted list with a mask load or a reset refresh ends with the mask not persistent, any other leaves persistence as it was
  pub call_persistent : (verdict_of list b).number ≡ 0 → (run_call list b).after.state.persistent ≡ cond (decided (fields list)) false b.state.persistent
  call_persistent h =
      ap (λ (x : Board). x.state.persistent) (call_runs list b h)
      ∙ fields_persistent 0 (fields list) b (list_passes list b h)
      ∙ ap (λ (o : Option ℕ). cond (decided (fields list)) (is_open o) b.state.persistent) (accepted_closed list b h)

  module _ (plain : b.state.persistent ≡ false) where
    -- of the lists whose fields pass, 20 refuses just those whose run would leave the mask persistent
    pub refused_persistent : Passes 0 (fields list) b → eqb (verdict_of list b).number 20 ≡ (run (cycles_of list) b).state.persistent
    refused_persistent a =
        ap (λ (v : Bad). eqb v.number 20) (verdict_left list b a.given a.none)
        ∙ is_open_number (open_of list)
        ∙ sym (open_persistent 0 (fields list) None b a plain)

    -- no list that is run whole, accepted or refused, leaves the mask persistent where it was not
    pub call_plain : (run_call list b).after.state.persistent ≡ false
    call_plain = go (eqb (verdict_of list b).number 0) refl
      where
        neither : (d : Bool) → cond d false false ≡ false
        neither true = refl
        neither false = refl

        go : (t : Bool) → eqb (verdict_of list b).number 0 ≡ t → (run_call list b).after.state.persistent ≡ false
        go true q =
            call_persistent (eqb-true _ _ q)
            ∙ ap (λ (p : Bool). cond (decided (fields list)) false p) plain
            ∙ neither (decided (fields list))
        go false q = ap (λ (x : Board). x.state.persistent) (call_refuses list b (eqb-false _ _ q)) ∙ plain
