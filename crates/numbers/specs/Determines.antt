-- What each call owes, said of its contract as the compiler has it: for each input it determines the outcome. Assumes nothing.
-- An input is the arguments, with what stands behind each reference at entry. An outcome is the result, with what is left behind each
-- `&mut`: the compiler's `Lasts` has a part for each parameter, so nothing that is lent can be left out.
use Rattle.std.specs.Prelude.{◌≡◌}
use seplogic.Ra.Ura.{Ura}
use base.Logic.{SProp, emp}
use prog.Memory.{Memory}
use prog.Routine.{Routine}
use types.Logic.{Logic}
use contract.Monad.{Fun, fact}
use contract.Lifetimes.{Lfts}
use denote.Exit.{yes}
use denote.Signature.{Signature}
use denote.Triple.Entry.{Args, Res}
use denote.Triple.End.{all}
use denote.Triple.Clauses.{Ended, Clauses, Lasts, AtExit, at_exit}

module _ (S : Signature) where
  -- every parameter is seen at exit
  abbrev pub ended : Ended
  ended = record { signature = S; kept = all yes S.params }

  -- a function's `requires` and `ensures`, in every model of the logic
  abbrev pub Contract : Type 2
  Contract = (M : Type 1) (𝓤 : Ura M) (𝓛 : Logic 𝓤) → (Memory → SProp 𝓤) → (Routine → Fun 𝓤) → Clauses 𝓤 ended

  -- what can be said of the arguments, the result and the parameters at exit
  abbrev pub Statement : Type 1
  Statement = (κs : Lfts S.lifetimes) → Args S κs → Res S κs → AtExit ended κs → Type 0

  -- the contract that requires nothing and ensures P
  abbrev pub ensures : Statement → Contract
  ensures P M 𝓤 𝓛 mem run κs a = record { ghost = Unit {0}; requires = λ g. emp 𝓤; ensures = λ g r e. fact 𝓤 (P κs a r e) }

  abbrev pub Outcome : (κs : Lfts S.lifetimes) → Args S κs → Type 0
  Outcome κs a = Res S κs × Lasts ended κs a

  abbrev pub Meets : Statement → (κs : Lfts S.lifetimes) (a : Args S κs) → Outcome κs a → Type 0
  Meets P κs a x = P κs a x.0 (at_exit ended κs a x.1)

  -- two outcomes that meet it at one input are equal
  abbrev pub Once : Statement → Type 0
  Once P = (κs : Lfts S.lifetimes) (a : Args S κs) (x y : Outcome κs a) → Meets P κs a x → Meets P κs a y → x ≡ y

  -- the contract is that of a statement that two outcomes meet only if they are equal
  pub record Determines (c : Contract) : Type 2 where
    pub ensured : Statement
    pub whole : c ≡ ensures ensured
    pub once : Once ensured
