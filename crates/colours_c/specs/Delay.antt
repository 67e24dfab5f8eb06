-- The delay, as C sees it: an accepted pixel answers the levels of what the third before it asked for. Assumes nothing.
use Rattle.std.specs.Prelude.{◌≡◌, refl, true, false, List, [], ◌∷◌, map, length, get_or}
use Rattle.std.proofs.Common.{sym, ◌∙◌, arith, ℕ, zero, suc, ◌+◌, ◌<◌}
use Rattle.std.proofs.Math.Path.{ap}
use Rattle.std.proofs.lemmas.List.{length-map}
use Rattle.colours.specs.declared.Output.TheVariants.{Blank}
use Rattle.colours.specs.State.{fresh, pipe}
use Rattle.colours.proofs.StateLaws.{fresh_ruled}
use Rattle.colours.specs.Session.{board, Passed, asked, passed}
use Rattle.colours.proofs.Pipe.{mapped_at, first_three, three_later}
use Rattle.colours_c.specs.declared.Held.{Held}
use Rattle.colours_c.specs.declared.HeldLevels.{HeldLevels}
use Rattle.colours_c.specs.Levels.{held_levels, handed_output}
use Rattle.colours_c.specs.State.{lawful, taken, handed}
use Rattle.colours_c.specs.StateLaws.{handed_taken, taken_ruled, handed_lawful}
use Rattle.colours_c.specs.Session.{held_board, HeldEvent, held_came, below}
use Rattle.colours_c.specs.SessionLaws.{levels_came, held_came_is}

-- what stands past the end of a list
abbrev nobody : Passed
nobody =
    record {
      inputs = record {
        address = 0;
        horizontal = false;
        vertical = false;
        blank = false;
        overlay = false;
        red = false;
        green = false;
        blue = false;
        blink = false;
      };
      table = [];
      output = Blank;
    }

module _ (es : List HeldEvent) (h : Held) (t : List ℕ) (e : lawful h ≡ true) where
  -- the accepted pixels below
  abbrev pub below_passed : List Passed
  below_passed = passed (map below es) (board (taken h) t)

  came_below : held_came es (held_board h t) ≡ map levels_came below_passed
  came_below =
      ap (λ (x : Held). held_came es (held_board x t)) (sym (handed_taken h e)) ∙ held_came_is es (board (taken h) t) (taken_ruled h e)

  length_below : length (held_came es (held_board h t)) ≡ length below_passed
  length_below = ap length came_below ∙ length-map below_passed levels_came

  -- d and p stand past the end of a list, where no law looks
  at_below : (k : ℕ) (d : HeldLevels) (p : Passed) → k < length (held_came es (held_board h t))
      → get_or (held_came es (held_board h t)) k d ≡ levels_came (get_or below_passed k p)
  at_below k d p l =
      ap (λ (o : List HeldLevels). get_or o k d) came_below ∙ mapped_at levels_came below_passed k p d (rw (← length_below) l)

  first_below : (k : ℕ) (d : HeldLevels) → k < 3 → k < length (held_came es (held_board h t))
      → get_or (held_came es (held_board h t)) k d ≡ handed_output (get_or (pipe (taken h)) k Blank)
  first_below k d m l =
      at_below k d nobody l ∙ ap handed_output (first_three (map below es) (board (taken h) t) nobody k m (rw (← length_below) l))

  -- the first three that are accepted answer what is on its way
  pub held_first_three : (k : ℕ) (d : HeldLevels) → k < 3 → k < length (held_came es (held_board h t))
      → get_or (held_came es (held_board h t)) k d ≡ get_or (h.first ∷ h.second ∷ h.third ∷ []) k d
  unfolding handed
  held_first_three zero d m l = first_below zero d m l ∙ ap (λ (x : Held). x.first) (handed_taken h e)
  held_first_three (suc zero) d m l = first_below (suc zero) d m l ∙ ap (λ (x : Held). x.second) (handed_taken h e)
  held_first_three (suc (suc zero)) d m l = first_below (suc (suc zero)) d m l ∙ ap (λ (x : Held). x.third) (handed_taken h e)
  held_first_three (suc (suc (suc k))) d m l = absurd (omega arith)

  -- and then each answers the levels of what the inputs of the third before asked for, with the table as it was when they entered
  pub held_three_later : (k : ℕ) (d : HeldLevels) (p : Passed) → k + 3 < length (held_came es (held_board h t))
      → get_or (held_came es (held_board h t)) (k + 3) d ≡ handed_output (asked (get_or below_passed k p))
  held_three_later k d p l =
      at_below (k + 3) d p l
      ∙ ap handed_output (three_later (map below es) (board (taken h) t) p k (rw (← length_below) l))

-- after `linkshoar_colours_fresh` the first three answer blank level on every gun
pub held_first_blank : (es : List HeldEvent) (t : List ℕ) (k : ℕ) (d : HeldLevels) → k < 3
    → k < length (held_came es (held_board (handed fresh) t)) → get_or (held_came es (held_board (handed fresh) t)) k d ≡ held_levels 17 17 17
unfolding handed handed_output
held_first_blank es t k d m l = held_first_three es (handed fresh) t (handed_lawful fresh fresh_ruled) k d m l ∙ blank_at k m
  where
    blank_at : (k : ℕ) → k < 3 → get_or ((handed fresh).first ∷ (handed fresh).second ∷ (handed fresh).third ∷ []) k d ≡ held_levels 17 17 17
    blank_at zero m = refl
    blank_at (suc zero) m = refl
    blank_at (suc (suc zero)) m = refl
    blank_at (suc (suc (suc k))) m = absurd (omega arith)
