-- What a read answers and leaves, by its select, and a colour read by its phase. Assumes nothing.
use Rattle.std.specs.Prelude.{◌≡◌, ℕ, true, ◌≢◌, List, length, ◌==◌, refl}
use Rattle.std.proofs.Common.{sym, ap, ◌∙◌, arith, ne_eqb}
use Rattle.palette.specs.declared.Palette.{Palette}
use Rattle.palette.specs.declared.Accessed.{Accessed}
use Rattle.palette.specs.State.{with_phase, ruled, register}
use Rattle.palette.specs.Access.{taken, colour_read, byte_read, after_read}
use Rattle.palette.specs.Calls.{accessed, access_refusal, Outcome, write_call, read_call}
use Rattle.palette.specs.StateLaws.{cond_holds}
use Rattle.palette.proofs.CallLaws.{read_accepted}
use Rattle.palette.proofs.EntrySet.{entry_taken}

-- a read of another select than 1 changes nothing, refused or not
pub read_keeps : (p : Palette) (t : List ℕ) (s : ℕ) → s ≢ 1 → (read_call p t s).state ≡ p
unfolding read_call after_read
read_keeps p t s n = cond_holds (λ (q : Palette). q ≡ p) (access_refusal 2 p (length t) s == 0) (rw (ne_eqb s 1 n)) refl

module _ (p : Palette) (t : List ℕ) (rule : ruled p ≡ true) (bytes : length t ≡ 768) where
  -- select 0 answers A, select 2 the pixel mask, and nothing changes
  pub address_read : read_call p t 0 ≡ accessed p p.address 0
  unfolding after_read byte_read
  address_read = read_accepted p t rule bytes 0 (omega arith)

  pub mask_read : read_call p t 2 ≡ accessed p p.mask 0
  unfolding after_read byte_read
  mask_read = read_accepted p t rule bytes 2 (omega arith)

  pub colour_read_is : read_call p t 1 ≡ accessed (colour_read p t) (register p) 0
  unfolding after_read byte_read
  colour_read_is = read_accepted p t rule bytes 1 (omega arith)

  -- a red or a green read moves the phase alone
  pub red_read : p.phase ≡ 0 → read_call p t 1 ≡ accessed (with_phase p 1) p.red 0
  red_read e = rw (colour_read_is, e)

  pub green_read : p.phase ≡ 1 → read_call p t 1 ≡ accessed (with_phase p 2) p.green 0
  green_read e = rw (colour_read_is, e)

  -- a blue read answers the old blue and is the taking of entry A
  pub blue_read : p.phase ≡ 2 → read_call p t 1 ≡ accessed (taken (with_phase p 0) t) p.blue 0
  blue_read e = rw (colour_read_is, e)

  -- so it leaves what a write of A to select 3 leaves
  pub blue_read_takes : p.phase ≡ 2 → (read_call p t 1).state ≡ (write_call p t 3 p.address).answer.state
  blue_read_takes e =
      ap (λ (r : Accessed). r.state) (blue_read e) ∙ sym (ap (λ (o : Outcome). o.answer.state) (entry_taken p t rule bytes p.address))
