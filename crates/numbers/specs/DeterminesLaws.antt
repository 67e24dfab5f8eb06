-- Contracts that determine the outcome. Assumes nothing.
use Rattle.std.specs.Prelude.{◌≡◌}
use Rattle.std.proofs.Common.{sym, ap, ◌∙◌}
use seplogic.Ra.Ura.{Ura}
use base.Logic.{emp, ent, sep, via, snd∗, both⊢}
use contract.Monad.{conj, conj_i, fact, fact_i, fact_mono, fact_use, fact∗, fact_hold}
use contract.Lifetimes.{Lfts}
use denote.Signature.{Signature}
use denote.Triple.Entry.{Args, Res}
use denote.Triple.Clauses.{Lasts, AtExit, at_exit}
use Rattle.numbers.specs.Determines.{ended, Contract, Statement, ensures, Outcome, Once, Determines}

-- two clauses of facts say both
two_facts : {M : Type 1} (𝓤 : Ura M) (φ ψ : Type 0) → sep 𝓤 (fact 𝓤 φ) (fact 𝓤 ψ) ≡ fact 𝓤 (φ × ψ)
two_facts 𝓤 φ ψ = both⊢ 𝓤 forth back
  where
    forth : ent 𝓤 (sep 𝓤 (fact 𝓤 φ) (fact 𝓤 ψ)) (fact 𝓤 (φ × ψ))
    forth =
        fact_use 𝓤 φ (fact∗ 𝓤 φ (fact 𝓤 ψ))
        (λ p. fact_use 𝓤 ψ (snd∗ 𝓤 (fact 𝓤 φ) (fact 𝓤 ψ)) (λ q. fact_i 𝓤 (φ × ψ) (sep 𝓤 (fact 𝓤 φ) (fact 𝓤 ψ)) (p, q)))

    back : ent 𝓤 (fact 𝓤 (φ × ψ)) (sep 𝓤 (fact 𝓤 φ) (fact 𝓤 ψ))
    back =
        via 𝓤 (conj 𝓤 (fact 𝓤 φ) (fact 𝓤 ψ))
        (conj_i 𝓤 (fact 𝓤 φ) (fact 𝓤 ψ) (fact_mono 𝓤 (φ × ψ) φ (λ b. b.0)) (fact_mono 𝓤 (φ × ψ) ψ (λ b. b.1)))
        (fact_hold 𝓤 φ (fact 𝓤 ψ))

module _ {S : Signature} {c : Contract S} where
  -- one that equates the result with a function of the input, where nothing is lent to be changed
  pub by_result : {f : (κs : Lfts S.lifetimes) (a : Args S κs) → Res S κs}
      → c ≡ ensures S (λ κs a r e. r ≡ f κs a)
      → ((κs : Lfts S.lifetimes) (a : Args S κs) (v w : Lasts (ended S) κs a) → v ≡ w)
      → Determines S c
  by_result whole alike = record {
    ensured = _;
    whole = whole;
    once = λ κs a x y p q. ap (λ r. (r, x.1)) (p ∙ sym q) ∙ ap (λ w. (y.0, w)) (alike κs a x.1 y.1);
  }

  -- one that equates what is made of the result, where the result can be had back, and where nothing is lent to be changed
  pub by_made : {N : Type 0} {made : (κs : Lfts S.lifetimes) → Args S κs → Res S κs → N} {f : (κs : Lfts S.lifetimes) → Args S κs → N}
      → c ≡ ensures S (λ κs a r e. made κs a r ≡ f κs a)
      → (back : (κs : Lfts S.lifetimes) (a : Args S κs) → N → Res S κs)
      → ((κs : Lfts S.lifetimes) (a : Args S κs) (r : Res S κs) → back κs a (made κs a r) ≡ r)
      → ((κs : Lfts S.lifetimes) (a : Args S κs) (v w : Lasts (ended S) κs a) → v ≡ w)
      → Determines S c
  by_made whole back same alike = record {
    ensured = _;
    whole = whole;
    once = λ κs a x y p q.
        ap (λ r. (r, x.1)) (sym (same κs a x.0) ∙ ap (back κs a) (p ∙ sym q) ∙ same κs a y.0) ∙ ap (λ w. (y.0, w)) (alike κs a x.1 y.1);
  }

  -- one that equates what is made of the outcome, where the outcome can be had back
  pub by_outcome : {O : Type 0} {made : (κs : Lfts S.lifetimes) → Args S κs → Res S κs → AtExit (ended S) κs → O}
      {f : (κs : Lfts S.lifetimes) → Args S κs → O}
      → c ≡ ensures S (λ κs a r e. made κs a r e ≡ f κs a)
      → (back : (κs : Lfts S.lifetimes) (a : Args S κs) → O → Outcome S κs a)
      → ((κs : Lfts S.lifetimes) (a : Args S κs) (x : Outcome S κs a) → back κs a (made κs a x.0 (at_exit (ended S) κs a x.1)) ≡ x)
      → Determines S c
  by_outcome whole back same = record {
    ensured = _;
    whole = whole;
    once = λ κs a x y p q. sym (same κs a x) ∙ ap (back κs a) (p ∙ sym q) ∙ same κs a y;
  }

  -- one of two clauses, of which the first determines it
  pub by_first : {P Q : Statement S}
      → c ≡ (λ M 𝓤 𝓛 mem run κs a. record {
        ghost = Unit {0};
        requires = λ g. emp 𝓤;
        ensures = λ g r e. sep 𝓤 (fact 𝓤 (P κs a r e)) (fact 𝓤 (Q κs a r e));
      })
      → Once S P → Determines S c
  by_first {P} {Q} whole once = record {
    ensured = λ κs a r e. P κs a r e × Q κs a r e;
    whole = whole ∙ (λ i M 𝓤 𝓛 mem run κs a. record {
      ghost = Unit {0};
      requires = λ g. emp 𝓤;
      ensures = λ g r e. two_facts 𝓤 (P κs a r e) (Q κs a r e) i;
    });
    once = λ κs a x y p q. once κs a x y p.0 q.0;
  }

-- two contracts that equate the same of the outcome, with functions of the input that are equal, are one contract
pub same_contract : (S : Signature) {c d : Contract S} {O : Type 0}
    {made : (κs : Lfts S.lifetimes) → Args S κs → Res S κs → AtExit (ended S) κs → O} {f g : (κs : Lfts S.lifetimes) → Args S κs → O}
    → c ≡ ensures S (λ κs a r e. made κs a r e ≡ f κs a)
    → d ≡ ensures S (λ κs a r e. made κs a r e ≡ g κs a)
    → ((κs : Lfts S.lifetimes) (a : Args S κs) → f κs a ≡ g κs a)
    → c ≡ d
same_contract S {made = made} p q h = p ∙ (λ i. ensures S (λ κs a r e. made κs a r e ≡ h κs a i)) ∙ sym q
