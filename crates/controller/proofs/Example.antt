-- A small frame as a table, each row computed from the definitions: two words to a line, Offset 3, one refresh cycle, Top of Frame the last
-- address but one. Assumes nothing.
use Rattle.std.specs.Prelude.{◌≡◌, ℕ, Bool, true, false, List, [], ◌∷◌, negsuc, refl}
use Rattle.controller.specs.declared.Controller.{Controller}
use Rattle.controller.specs.declared.Update.TheVariants.{Retrace}
use Rattle.controller.specs.State.{controller, fresh, ruled}
use Rattle.controller.specs.Calls.{Call, Pan, SetOffset, SetMode, Video, HorizontalSync, VerticalSync, allows, against, refusal, effect, controlled, does, fetch_call}

-- a call, the number that it gives, and the state after it; or a word, its number, bank, row and column, and the state after it
pub data Row : Type 0 where
  call : Call → ℕ → Controller → Row
  word : ℕ → ℕ → ℕ → ℕ → Controller → Row

-- each row follows from the one above
abbrev Follows : Controller → List Row → Type 0
Follows s [] = Unit {0}
Follows s (call c n t ∷ rows) = (does c s ≡ controlled n t) × Follows t rows
Follows s (word n b r c t ∷ rows) = (fetch_call s ≡ record { state = t; number = n; bank = b; row = r; column = c }) × Follows t rows

-- Top of Frame, counter, refresh counter, video and inhibition, with Offset 3 and one refresh cycle
abbrev at : ℕ → ℕ → ℕ → Bool → Bool → Controller
at top counter refresh video inhibited = controller top counter 3 refresh 1 Retrace false video inhibited

abbrev table : List Row
table =
    call (SetOffset 3) 0 (controller 0 0 3 0 0 Retrace false false false) ∷
    call (SetMode 1 0 0) 0 (at 0 0 0 false false) ∷
    call (Pan (negsuc 1)) 0 (at 262142 0 0 false false) ∷
    word 17 0 0 0 (at 262142 0 0 false false) ∷
    call VerticalSync 0 (at 262142 262142 0 false true) ∷
    call HorizontalSync 0 (at 262142 262142 1 false true) ∷
    call (Video 1) 0 (at 262142 262142 1 true false) ∷
    word 0 3 255 254 (at 262142 262143 1 true false) ∷
    word 0 3 255 255 (at 262142 0 1 true false) ∷
    call (Video 0) 0 (at 262142 0 1 false false) ∷
    call (SetOffset 256) 16 (at 262142 0 1 false false) ∷
    call HorizontalSync 0 (at 262142 3 2 false false) ∷
    call (Video 1) 0 (at 262142 3 2 true false) ∷
    word 0 0 0 3 (at 262142 4 2 true false) ∷
    []

pub frame_example : Follows fresh table
unfolding ruled allows against refusal effect
frame_example =
    (refl, (refl, (refl, (refl, (refl, (refl, (refl, (refl, (refl, (refl, (refl, (refl, (refl, (refl, tt))))))))))))))
