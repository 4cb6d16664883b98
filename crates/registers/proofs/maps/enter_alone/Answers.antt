use Rattle.std.proofs.Common.{refl, sym, ap, ◌≡◌, ◌∙◌, rules, tests}
use borrow.Author.Tests.{le-leb}
use Rattle.std.proofs.lemmas.Result.{err_from_is_err_and}
use Rattle.file.specs.Refusals.{at_record}
use Rattle.file.specs.declared.Record.{Record}
use Rattle.file.specs.declared.Refusal.TheVariants.{TooManyRegisters}
use Rattle.file.proofs.RecordLaws.{parsed_good, not_parsed}
use Rattle.graph.proofs.SizeLaws.{registers_sized}
use Rattle.links.proofs.ResultLaws.{mapped_ok, mapped_err}
use Rattle.registers.specs.Registers.{register_record}
use Rattle.registers.proofs.MapLaws.{both_lent, too_many, entered, nothing}
use Rattle.registers.proofs.maps.enter_alone.Goals as goal

pub returns-then-not-maps_fit : goal.returns-then-not-maps_fit
unfolding register_record
returns-then-not-maps_fit c = rw (← c.maps_fit.ensures, c.if-not-maps_fit.true) refl

pub returns-in_err-r : goal.returns-in_err-r
unfolding register_record
returns-in_err-r c =
    let p = err_from_is_err_and c.from_residual.result c.from_residual.ensures.1 in
    let m = mapped_err _ c.map_err.ensures.cases c.in_err-r.was in
    let h = not_parsed _ _ (sym c.parse_record.ensures ∙ m.1) in
    let e : p.0 ≡ at_record c.args.i m.0 = search (rules, tests) in
    rw (p.1, ← c.maps_fit.ensures, c.if-not-maps_fit.false, h.0, e, h.1) refl

pub returns-then-v-ge512 : goal.returns-then-v-ge512
unfolding register_record
returns-then-v-ge512 c =
    let p = parsed_good _ _ (sym c.parse_record.ensures ∙ mapped_ok _ c.map_err.ensures.cases c.in_ok-r.was) in
    rw (← c.maps_fit.ensures, c.if-not-maps_fit.false, p.0, le-leb 512 c.args.v.0 c.if-v-ge512.true) refl

pub returns-in-None : goal.returns-in-None
returns-in-None c =
    let p = parsed_good _ _ (sym c.parse_record.ensures ∙ mapped_ok _ c.map_err.ensures.cases c.in_ok-r.was) in
    let t = sym c.maps_fit.ensures ∙ c.if-not-maps_fit.false in
    let f = both_lent _ _ _ (registers_sized c.args.first _ c.well_formed.1.0) (registers_sized c.args.last _ c.well_formed.1.1.0) t in
    entered _ _ _ _ _ t p.0 c.if-v-ge512.false _ _ f.0 f.1 (nothing _ _ _ _ (sym c.in-None.is ∙ ap (λ (x : Record). x.classical) p.1) f.0 f.1)

pub of-new_first-requires : goal.of-new_first-requires
of-new_first-requires c =
    (both_lent _ _ _ (registers_sized c.args.first _ c.well_formed.1.0) (registers_sized c.args.last _ c.well_formed.1.1.0) (sym c.maps_fit.ensures ∙ c.if-not-maps_fit.false)).0

pub of-new_last-requires : goal.of-new_last-requires
of-new_last-requires c =
    (both_lent _ _ _ (registers_sized c.args.first _ c.well_formed.1.0) (registers_sized c.args.last _ c.well_formed.1.1.0) (sym c.maps_fit.ensures ∙ c.if-not-maps_fit.false)).1

pub returns-in_err-map_err : goal.returns-in_err-map_err
returns-in_err-map_err c =
    let p = parsed_good _ _ (sym c.parse_record.ensures ∙ mapped_ok _ c.map_err.ensures.cases c.in_ok-r.was) in
    let t = sym c.maps_fit.ensures ∙ c.if-not-maps_fit.false in
    let q = err_from_is_err_and c.from_residual-in_err-map_err.result c.from_residual-in_err-map_err.ensures.1 in
    let m = mapped_err {r = c.enter_record.result} _ c.map_err-2.ensures.cases c.in_err-map_err.was in
    let e : q.0 ≡ TooManyRegisters c.args.i = search (rules, tests) in
    rw (q.1, e) (too_many _ _ _ _ _ t p.0 c.if-v-ge512.false (rw (c.of-new_first.ensures, c.of-new_last.ensures, m.1) at c.enter_record.ensures))

pub returns : goal.returns
returns c =
    let p = parsed_good _ _ (sym c.parse_record.ensures ∙ mapped_ok _ c.map_err.ensures.cases c.in_ok-r.was) in
    let t = sym c.maps_fit.ensures ∙ c.if-not-maps_fit.false in
    let m = mapped_ok {r = c.enter_record.result} _ c.map_err-2.ensures.cases c.in_ok-map_err.was in
    entered _ _ _ _ _ t p.0 c.if-v-ge512.false _ _ c.enter_record.new.first.fits c.enter_record.new.last.fits
    (rw (c.of-new_first.ensures, c.of-new_last.ensures, m) at c.enter_record.ensures)
