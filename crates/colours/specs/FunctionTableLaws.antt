-- Every row of the function table holds, and every pixel fits one. Assumes nothing.
use Rattle.std.specs.Prelude.{◌≡◌, refl, Bool, true, false, not, ◌&&◌, ◌||◌, ℕ, ◌-◌, ◌%◌}
use Rattle.std.proofs.Common.{ap, ◌∙◌, inl, inr, arith}
use Rattle.std.proofs.Math.Bool.{and-false}
use Rattle.words.specs.Bit.{bit}
use Rattle.colours.specs.declared.Inputs.{Inputs}
use Rattle.colours.specs.declared.Output.{Output}
use Rattle.colours.specs.declared.Output.TheVariants.{Sync, Blank, Overlay}
use Rattle.colours.specs.declared.Level.{Level}
use Rattle.colours.specs.declared.Level.TheVariants as level
use Rattle.colours.specs.Output.{blinked, colour_of, asks, overlaid, levels_of}
use Rattle.colours.specs.OutputLaws.{asks_sync, asks_blank, asks_overlay, asks_colour}
use Rattle.colours.specs.FunctionTable.{Gun, Red, Green, Blue, on_of, data_of, level_of, composite_sync, table, AllHold, FitsSome}

-- ---- what is asked for, by the pins

module _ (i : Inputs) (word : ℕ) where
  one_sync_asked : (h v : Bool) → i.horizontal ≡ h → i.vertical ≡ v → ((h || v) && not (h && v)) ≡ true → asks i word ≡ Sync
  one_sync_asked h v p q e = asks_sync i word (rw (p, q) e)

  both_syncs_asked : i.horizontal ≡ true → i.vertical ≡ true → asks i word ≡ Blank
  both_syncs_asked p q = asks_blank i word (rw (p, q)) (rw (p, q))

  module _ (p : i.horizontal ≡ false) (q : i.vertical ≡ false) where
    blank_asked : i.blank ≡ true → asks i word ≡ Blank
    blank_asked k = asks_blank i word (rw (p, q)) (rw p k)

    overlay_asked : i.blank ≡ false → i.overlay ≡ true → asks i word ≡ Overlay i.red i.green i.blue
    overlay_asked k o = asks_overlay i word (rw (p, q)) (rw p k) o

    colour_asked : i.blank ≡ false → i.overlay ≡ false → asks i word ≡ colour_of (blinked i.blink word)
    colour_asked k o = asks_colour i word (rw (p, q)) (rw p k) o

-- ---- the level of a gun, by what is asked for

level_overlay : (g : Gun) (i : Inputs) (p : Bool) → on_of g i ≡ p → (l : Level) → overlaid p ≡ l
    → level_of g (levels_of (Overlay i.red i.green i.blue)) ≡ l
level_overlay Red i p e l f = ap overlaid e ∙ f
level_overlay Green i p e l f = ap overlaid e ∙ f
level_overlay Blue i p e l f = ap overlaid e ∙ f

level_step : (g : Gun) (word : ℕ) → level_of g (levels_of (colour_of (word % 4096))) ≡ level.Step (data_of g word)
level_step Red word = ap level.Step (omega arith)
level_step Green word = ap level.Step (omega arith)
level_step Blue word = ap level.Step (omega arith)

level_inverse : (g : Gun) (word : ℕ) → level_of g (levels_of (colour_of (4095 - word % 4096))) ≡ level.Step (15 - data_of g word)
level_inverse Red word = ap level.Step (omega arith)
level_inverse Green word = ap level.Step (omega arith)
level_inverse Blue word = ap level.Step (omega arith)

level_blank : (g : Gun) → level_of g (levels_of Blank) ≡ level.Blank
level_blank Red = refl
level_blank Green = refl
level_blank Blue = refl

level_sync : (g : Gun) (n : ℕ) → level_of g (levels_of Sync) ≡ composite_sync g n
level_sync Red n = refl
level_sync Green n = refl
level_sync Blue n = refl

-- ---- each row holds

module _ (g : Gun) (i : Inputs) (word : ℕ) where
  level_by : {o : Output} {l : Level} → asks i word ≡ o → level_of g (levels_of o) ≡ l → level_of g (levels_of (asks i word)) ≡ l
  level_by e f = ap (λ (o : Output). level_of g (levels_of o)) e ∙ f

  steps : (i.blink && bit word 12) ≡ false → level_of g (levels_of (colour_of (blinked i.blink word))) ≡ level.Step (data_of g word)
  steps e = rw e (level_step g word)

pub function_table : AllHold table
function_table = (
  λ g i w f. level_by g i w (overlay_asked i w f.horizontal f.vertical f.blank f.overlay) (level_overlay g i true f.on level.White refl),
  (
    λ g i w f. level_by g i w (colour_asked i w f.horizontal f.vertical f.blank f.overlay) (steps g i w (rw f.blink)),
    (
      λ g i w f. level_by g i w (colour_asked i w f.horizontal f.vertical f.blank f.overlay) (steps g i w (rw f.twelve (and-false i.blink))),
      (
        λ g i w f. level_by g i w (colour_asked i w f.horizontal f.vertical f.blank f.overlay) (rw (f.blink, f.twelve) (level_inverse g w)),
        (
          λ g i w f. level_by g i w (overlay_asked i w f.horizontal f.vertical f.blank f.overlay) (level_overlay g i false f.on level.Black refl),
          (
            λ g i w f. level_by g i w (blank_asked i w f.horizontal f.vertical f.blank) (level_blank g),
            (
              λ g i w f. level_by g i w (both_syncs_asked i w f.horizontal f.vertical) (level_blank g),
              (
                λ g i w f. level_by g i w (one_sync_asked i w true false f.horizontal f.vertical refl) (level_sync g (data_of g w)),
                (
                  λ g i w f. level_by g i w (one_sync_asked i w false true f.horizontal f.vertical refl) (level_sync g (data_of g w)),
                  tt,
                ),
              ),
            ),
          ),
        ),
      ),
    ),
  ),
)

-- ---- and there is no other case: every gun of every pixel fits a row

pub table_whole : (g : Gun) (i : Inputs) (word : ℕ) → FitsSome table g i word
table_whole g i word =
    go i.horizontal refl i.vertical refl i.blank refl i.overlay refl (on_of g i) refl i.blink refl (bit word 12) refl
  where
    go : (h : Bool) → i.horizontal ≡ h → (v : Bool) → i.vertical ≡ v → (k : Bool) → i.blank ≡ k
        → (o : Bool) → i.overlay ≡ o → (n : Bool) → on_of g i ≡ n → (b : Bool) → i.blink ≡ b → (t : Bool) → bit word 12 ≡ t
        → FitsSome table g i word
    go true p true q k x o y n z b u t w =
        inr (inr (inr (inr (inr (inr (inl (record { on = tt; overlay = tt; blank = tt; horizontal = p; vertical = q; blink = tt; twelve = tt })))))))
    go true p false q k x o y n z b u t w =
        inr (inr (inr (inr (inr (inr (inr (inl (record { on = tt; overlay = tt; blank = tt; horizontal = p; vertical = q; blink = tt; twelve = tt }))))))))
    go false p true q k x o y n z b u t w =
        inr (inr (inr (inr (inr (inr (inr (inr (inl (record { on = tt; overlay = tt; blank = tt; horizontal = p; vertical = q; blink = tt; twelve = tt })))))))))
    go false p false q true x o y n z b u t w =
        inr (inr (inr (inr (inr (inl (record { on = tt; overlay = tt; blank = x; horizontal = p; vertical = q; blink = tt; twelve = tt }))))))
    go false p false q false x true y true z b u t w =
        inl (record { on = z; overlay = y; blank = x; horizontal = p; vertical = q; blink = tt; twelve = tt })
    go false p false q false x true y false z b u t w =
        inr (inr (inr (inr (inl (record { on = z; overlay = y; blank = x; horizontal = p; vertical = q; blink = tt; twelve = tt })))))
    go false p false q false x false y n z false u t w =
        inr (inl (record { on = tt; overlay = y; blank = x; horizontal = p; vertical = q; blink = u; twelve = tt }))
    go false p false q false x false y n z true u false w =
        inr (inr (inl (record { on = tt; overlay = y; blank = x; horizontal = p; vertical = q; blink = tt; twelve = w })))
    go false p false q false x false y n z true u true w =
        inr (inr (inr (inl (record { on = tt; overlay = y; blank = x; horizontal = p; vertical = q; blink = u; twelve = w }))))
