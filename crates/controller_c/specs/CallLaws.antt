-- The two ways out of each export; a refusal hands the state back as it came; calls in a row from C are those of `controller`.
-- Assumes nothing.
use Rattle.std.specs.Prelude.{◌≡◌, refl, Bool, true, false, cond, List, [], ◌∷◌, ◌≢◌, Result, MatchResult}
use Rattle.std.specs.Prelude.Result.{Ok, Err}
use Rattle.std.proofs.Math.Path.{ap}
use Rattle.std.proofs.Common.{sym, ◌∙◌}
use Rattle.std.proofs.lemmas.Result.{MatchResult-at_ok, MatchResult-at_err}
use Rattle.numbers.specs.declared.Refusal.{Refusal}
use Rattle.numbers.specs.declared.Refusal.TheVariants.{StateExcluded}
use Rattle.numbers.specs.Refusal.{number_of}
use Rattle.controller.specs.declared.Address.{Address}
use Rattle.controller.specs.declared.Controller.{Controller}
use Rattle.controller.specs.Calls.{Controlled as Below, Fetched as FetchedBelow, Call, Fetch, does, fetch_call, after, controlled_by, fetched_by}
use Rattle.controller.specs.CallLaws.{refused_keeps}
use Rattle.controller.specs.Session.{session}
use Rattle.controller_c.specs.declared.Held.{Held}
use Rattle.controller_c.specs.State.{lawful, taken, taking, handed}
use Rattle.controller_c.specs.StateLaws.{handed_taken, taken_handed, handed_lawful}
use Rattle.controller_c.specs.Calls.{handed_on, held_excluded, held_call, handed_on_fetch, fetch_excluded, held_fetch, answered, answered_fetch}

-- ---- the two ways out, by whether a `Controller` can be so

module _ (h : Held) (e : lawful h ≡ false) where
  pub call_excluded : (c : Call) → held_excluded h ≡ held_call c h
  unfolding held_call
  call_excluded c = rw e

  pub fetch_excluded_is : fetch_excluded h ≡ held_fetch h
  unfolding held_fetch
  fetch_excluded_is = rw e

module _ (h : Held) (e : lawful h ≡ true) {s : Controller} (f : s ≡ taken h) where
  pub call_done : (c : Call) {r : Below} → r ≡ does c s → handed_on r ≡ held_call c h
  unfolding held_call
  call_done c g = rw e (ap handed_on (g ∙ ap (does c) f))

  pub fetch_done : {r : FetchedBelow} → r ≡ fetch_call s → handed_on_fetch r ≡ held_fetch h
  unfolding held_fetch
  fetch_done g = rw e (ap handed_on_fetch (g ∙ ap fetch_call f))

-- ---- the same of results: t is the state taken, and P holds of it where the call below has the answer

by_taking : {T : Type 0} (Q : Type 0) (h : Held) (P : Controller → Type 0) (t : Result Controller Refusal) (answer : Result T Refusal)
    → t ≡ taking h → MatchResult t P (λ why. answer ≡ Err why)
    → (lawful h ≡ true → P (taken h) → Q) → (lawful h ≡ false → answer ≡ Err StateExcluded → Q) → Q
unfolding taking
by_taking Q h P t answer e m f g = go (lawful h) refl
  where
    go : (b : Bool) → lawful h ≡ b → Q
    go true l = f l (MatchResult-at_ok P (λ why. answer ≡ Err why) (taken h) (rw l at e) m)
    go false l = g l (MatchResult-at_err P (λ why. answer ≡ Err why) StateExcluded (rw l at e) m)

pub call_answered : (c : Call) (h : Held) (P : Controller → Type 0) (t answer : Result Controller Refusal) → t ≡ taking h
    → MatchResult t P (λ why. answer ≡ Err why) → (P (taken h) → controlled_by (taken h) answer ≡ does c (taken h))
    → answered h answer ≡ held_call c h
call_answered c h P t answer e m f =
    by_taking (answered h answer ≡ held_call c h) h P t answer e m (λ l p. done l answer (f p)) (λ l x. ap (answered h) x ∙ call_excluded h l c)
  where
    done : lawful h ≡ true → (answer : Result Controller Refusal) → controlled_by (taken h) answer ≡ does c (taken h)
        → answered h answer ≡ held_call c h
    done l (Ok s) g = call_done h l refl c g
    done l (Err why) g = ap (λ (x : Held). record { state = x; number = number_of why }) (sym (handed_taken h l)) ∙ call_done h l refl c g

pub fetch_answered : (h : Held) (P : Controller → Type 0) (t : Result Controller Refusal) (answer : Result (Controller × Address) Refusal)
    → t ≡ taking h → MatchResult t P (λ why. answer ≡ Err why) → (P (taken h) → fetched_by (taken h) answer ≡ fetch_call (taken h))
    → answered_fetch h answer ≡ held_fetch h
fetch_answered h P t answer e m f =
    by_taking (answered_fetch h answer ≡ held_fetch h) h P t answer e m (λ l p. done l answer (f p))
    (λ l x. ap (answered_fetch h) x ∙ fetch_excluded_is h l)
  where
    done : lawful h ≡ true → (answer : Result (Controller × Address) Refusal) → fetched_by (taken h) answer ≡ fetch_call (taken h)
        → answered_fetch h answer ≡ held_fetch h
    done l (Ok s) g = fetch_done h l refl g
    done l (Err why) g =
        ap (λ (x : Held). record { state = x; number = number_of why; bank = 0; row = 0; column = 0 }) (sym (handed_taken h l))
        ∙ fetch_done h l refl g

-- ---- a refusal hands the state back as it came

pub held_refused : (c : Call) (h : Held) → (held_call c h).number ≢ 0 → (held_call c h).state ≡ h
unfolding held_call
held_refused c h = go (lawful h) refl
  where
    go : (b : Bool) → lawful h ≡ b → (cond b (handed_on (does c (taken h))) (held_excluded h)).number ≢ 0
        → (cond b (handed_on (does c (taken h))) (held_excluded h)).state ≡ h
    go true e n = ap handed (refused_keeps c (taken h) n) ∙ handed_taken h e
    go false e n = refl

pub held_fetch_refused : (h : Held) → (held_fetch h).number ≢ 0 → (held_fetch h).state ≡ h
unfolding held_fetch
held_fetch_refused h = go (lawful h) refl
  where
    go : (b : Bool) → lawful h ≡ b → (cond b (handed_on_fetch (fetch_call (taken h))) (fetch_excluded h)).number ≢ 0
        → (cond b (handed_on_fetch (fetch_call (taken h))) (fetch_excluded h)).state ≡ h
    go true e n = ap handed (refused_keeps Fetch (taken h) n) ∙ handed_taken h e
    go false e n = refl

-- ---- what holds of calls in a row holds of them in C

pub held_call_is : (c : Call) (s : Controller) → held_call c (handed s) ≡ handed_on (does c s)
unfolding held_call
held_call_is c s = rw (handed_lawful s) (ap (λ (t : Controller). handed_on (does c t)) (taken_handed s))

pub held_fetch_is : (s : Controller) → held_fetch (handed s) ≡ handed_on_fetch (fetch_call s)
unfolding held_fetch
held_fetch_is s = rw (handed_lawful s) (ap (λ (t : Controller). handed_on_fetch (fetch_call t)) (taken_handed s))

-- a fetch leaves what a call of it leaves
pub held_fetch_state : (h : Held) → (held_fetch h).state ≡ (held_call Fetch h).state
unfolding held_fetch held_call
held_fetch_state h = go (lawful h)
  where
    go : (b : Bool)
        → (cond b (handed_on_fetch (fetch_call (taken h))) (fetch_excluded h)).state ≡ (cond b (handed_on (does Fetch (taken h))) (held_excluded h)).state
    go true = refl
    go false = refl

-- the state after some calls, each given what the one before left
abbrev pub held_session : List Call → Held → Held
held_session [] h = h
held_session (c ∷ cs) h = held_session cs (held_call c h).state

pub held_session_is : (cs : List Call) (s : Controller) → held_session cs (handed s) ≡ handed (session cs s)
held_session_is [] s = refl
held_session_is (c ∷ cs) s = ap (λ r. held_session cs r.state) (held_call_is c s) ∙ held_session_is cs (after c s)

-- so a word fetched after some calls has the same answer, `frame_address` among others
pub held_word : (cs : List Call) (s : Controller) → held_fetch (held_session cs (handed s)) ≡ handed_on_fetch (fetch_call (session cs s))
held_word cs s = ap held_fetch (held_session_is cs s) ∙ held_fetch_is (session cs s)
