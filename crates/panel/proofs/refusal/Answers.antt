-- `panel::refusal` meets its contract: 10 and 14 are what the clocks give. Assumes nothing.
use Rattle.std.proofs.Common.{◌≡◌, ap, ◌∙◌, ◌*◌, leb, rules}
use Rattle.std.proofs.lemmas.Result.{err_from_is_err_and}
use Rattle.numbers.specs.Refuse.{refuse, first_of}
use Rattle.numbers.specs.RefuseLaws.{first_of_first}
use Rattle.numbers.specs.RefusalLaws.{number_not_zero}
use Rattle.vram.specs.Calls.{Moved, clocks_refusal}
use Rattle.panel.specs.Calls.{run_refusal}
use Rattle.vram.proofs.CallLaws.{clocks_number}
use Rattle.panel.proofs.refusal.Goals as goal

pub returns-in_err-clocks : goal.returns-in_err-clocks
unfolding run_refusal
returns-in_err-clocks c =
    let a = c.args in
    let k = clocks_refusal a.state a.clocks in
    let later = refuse (leb (3 * a.clocks) a.bytes) 15 0 in
    let n = ap (λ (x : Moved). x.number) c.in_err-clocks.ensures ∙ clocks_number a.state a.clocks in
    let f : first_of k later ≡ k = first_of_first k later (λ h. number_not_zero _ (n ∙ h)) in
    let g : first_of k later ≡ run_refusal a.state a.palette a.serial_words a.table_bytes a.clocks a.bytes = search rules in
    let p = err_from_is_err_and c.from_residual-in_err-clocks.result c.from_residual-in_err-clocks.ensures.1 in
    rw (p.1, p.2, ← g, f) n

pub returns : goal.returns
unfolding run_refusal
returns c =
    let a = c.args in
    let n : 0 ≡ clocks_refusal a.state a.clocks = ap (λ (x : Moved). x.number) c.in_ok-clocks.ensures ∙ clocks_number a.state a.clocks in
    search rules
