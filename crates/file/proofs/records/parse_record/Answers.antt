use Rattle.std.proofs.Common.{Option}
use Rattle.std.proofs.lemmas.Result.{err_from_is_err_and}
use Rattle.std.specs.Option.{ok_or}
use Rattle.std.specs.Result.{result_ok}
use Rattle.file.specs.Records.{qubit_form, qubit_rule, record_rule, qubits_by, empty_set}
use Rattle.file.specs.declared.InvolvedQubits.{InvolvedQubits}
use Rattle.file.specs.declared.Refusal.TheVariants.{BadRecord}
use Rattle.file.proofs.RecordLaws.{form_out, form_in, too_short, bad_end, bad_kind, bad_qubits, bad_tail, keeps_rule, empty_set_lem, good}
use mathlib.Core.Path.{◌≡◌, sym, ◌∙◌, ap, subst}
use mathlib.Core.Bool.{Bool, true, false, ◌&&◌}
use mathlib.Core.List.{List}
use Prim.Native.Nat.{ℕ}
use lib.Dec.{eqb}
use Rattle.file.proofs.records.parse_record.Goals as goal

pub returns-then-part-lt14 : goal.returns-then-part-lt14
returns-then-part-lt14 c = too_short _ c.if-part-lt14.true

pub returns-then-end-gt1 : goal.returns-then-end-gt1
returns-then-end-gt1 c = bad_end _ c.if-part-lt14.false c.if-end-gt1.true

pub returns-then-not-kind_fits : goal.returns-then-not-kind_fits
returns-then-not-kind_fits c =
    bad_kind _ c.if-part-lt14.false c.if-end-gt1.false (sym c.kind_fits.ensures ∙ c.if-not-kind_fits.true)

pub returns-in_err-qubits : goal.returns-in_err-qubits
returns-in_err-qubits c =
    let p = err_from_is_err_and c.from_residual.result c.from_residual.ensures.1 in
    let told = form_out _ _ _ _ (ap (λ (q : Option InvolvedQubits). ok_or q (BadRecord 0)) (sym c.involved_qubits.ensures) ∙ sym c.ok_or.ensures.value ∙ c.in_err-qubits.was) in
    rw (p.1, p.2, told.1) (bad_qubits _ c.if-part-lt14.false c.if-end-gt1.false _ c.read_mask-mask.ensures (sym c.kind_fits.ensures ∙ c.if-not-kind_fits.false) told.0)

pub returns-then-not-tail_fits : goal.returns-then-not-tail_fits
returns-then-not-tail_fits c =
    let told = form_in _ _ _ (sym c.involved_qubits.ensures ∙ c.ok_or.ensures.ok_part ∙ ap result_ok c.in_ok-qubits.was) in
    bad_tail _ c.if-part-lt14.false c.if-end-gt1.false _ c.read_mask-mask.ensures (sym c.kind_fits.ensures ∙ c.if-not-kind_fits.false) told.0 (sym c.tail_fits.ensures ∙ c.if-not-tail_fits.true)

pub returns-then-is_empty_set : goal.returns-then-is_empty_set
returns-then-is_empty_set c =
    let bytes : List ℕ = c.args.part.now in
    let told = form_in _ _ _ (sym c.involved_qubits.ensures ∙ c.ok_or.ensures.ok_part ∙ ap result_ok c.in_ok-qubits.was) in
    let kept : record_rule (bytes) ≡ true = keeps_rule _ (record { long = c.if-part-lt14.false; end = c.if-end-gt1.false; kinds = sym c.kind_fits.ensures ∙ c.if-not-kind_fits.false; qubits = subst (λ (m : ℕ). qubit_rule (qubit_form (bytes)) m ≡ true) c.read_mask-mask.ensures told.0; tail = sym c.tail_fits.ensures ∙ c.if-not-tail_fits.false }) in
    let empty-told : (b : Bool) → c.is_empty_set.result ≡ b → empty_set (bytes) ≡ b = λ b h. ap (λ (m : ℕ). eqb (qubit_form (bytes)) 2 && eqb m 0) (sym c.read_mask-mask.ensures) ∙ sym c.is_empty_set.ensures ∙ h in
    empty_set_lem _ (kept) (empty-told true c.if-is_empty_set.true)

pub returns : goal.returns
returns c =
    let bytes : List ℕ = c.args.part.now in
    let told = form_in _ _ _ (sym c.involved_qubits.ensures ∙ c.ok_or.ensures.ok_part ∙ ap result_ok c.in_ok-qubits.was) in
    let kept : record_rule (bytes) ≡ true = keeps_rule _ (record { long = c.if-part-lt14.false; end = c.if-end-gt1.false; kinds = sym c.kind_fits.ensures ∙ c.if-not-kind_fits.false; qubits = subst (λ (m : ℕ). qubit_rule (qubit_form (bytes)) m ≡ true) c.read_mask-mask.ensures told.0; tail = sym c.tail_fits.ensures ∙ c.if-not-tail_fits.false }) in
    let empty-told : (b : Bool) → c.is_empty_set.result ≡ b → empty_set (bytes) ≡ b = λ b h. ap (λ (m : ℕ). eqb (qubit_form (bytes)) 2 && eqb m 0) (sym c.read_mask-mask.ensures) ∙ sym c.is_empty_set.ensures ∙ h in
    good _ (kept) (empty-told false c.if-is_empty_set.false) _ _ _ (told.1 ∙ ap (qubits_by _) c.read_mask-mask.ensures) c.involved_classical-classical.ensures c.field_at-label.ensures
