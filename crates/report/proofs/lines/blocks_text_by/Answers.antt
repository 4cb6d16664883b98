use Rattle.std.proofs.Common.{ℕ, List, ◌++◌, ◌<◌, length, get_or, sym, ap, ◌∙◌, refl, arith}
use lib.Seq.{length-take-le}
use Rattle.report.specs.Text.{file_text_by, text_of}
use Rattle.report.proofs.LineLaws.{numbers_short, refused_short}
use Rattle.report.proofs.BlockLines.{few_records, few_blocks, scheduled_text, refusal_text, text_taken}
use Rattle.report.proofs.lines.blocks_text_by.Goals as goal
use Rattle.report.proofs.lines.blocks_text_by.Goals.{in-Ok, in-Err}

pub slice_bounds-numbers-end : goal.slice_bounds-numbers-end
slice_bounds-numbers-end c =
    let file = c.args.file.now in
    let bytes : ((i : ℕ) → get_or file i 0 < 256) = λ i. omega (arith, c.type_inv.file i) in
    let few = few_records _ file bytes _ refl _ _ c.schedule_by-counted.ensures.buffer_after _ c.in-Ok.is in
    omega (arith, few, c.record_count.ensures, c.schedule_by-counted.auto.buffer)

pub slice_bounds-write_blocks-end : goal.slice_bounds-write_blocks-end
slice_bounds-write_blocks-end c =
    let file = c.args.file.now in
    let bytes : ((i : ℕ) → get_or file i 0 < 256) = λ i. omega (arith, c.type_inv.file i) in
    let few = few_records _ file bytes _ refl _ _ c.schedule_by-counted.ensures.buffer_after _ c.in-Ok.is in
    sym (length-take-le _ _ (omega (arith, few, c.record_count.ensures, c.schedule_by-counted.auto.buffer)))

pub write_blocks-requires : goal.write_blocks-requires
write_blocks-requires c =
    let file = c.args.file.now in
    let bytes : ((i : ℕ) → get_or file i 0 < 256) = λ i. omega (arith, c.type_inv.file i) in
    let after = c.schedule_by-counted.ensures.buffer_after in
    let few = few_records _ file bytes _ refl _ _ after _ c.in-Ok.is in
    let blocks = few_blocks _ file bytes _ refl _ _ after _ c.in-Ok.is in
    let n = c.record_count.result in
    let numbers = c.schedule_by-counted.new.buffer in
    let same = text_taken numbers n c.in-Ok.count (omega (arith, few, c.record_count.ensures, c.schedule_by-counted.auto.buffer)) in
    let short = numbers_short numbers n c.in-Ok.count (omega (arith, few, c.record_count.ensures)) (omega (arith, blocks, c.record_count.ensures)) in
    omega (arith, ap length c.new-text.ensures, ap length same, short)

pub write_refusal-requires : goal.write_refusal-requires
write_refusal-requires c = omega (arith, ap length c.new-text.ensures, refused_short c.in-Err.r)

pub returns-clause-value : goal.returns-clause-value
returns-clause-value c =
    let file = c.args.file.now in
    let bytes : ((i : ℕ) → get_or file i 0 < 256) = λ i. omega (arith, c.type_inv.file i) in
    let x = c.schedule_by-counted.ensures in
    let none = ap (λ (l : List ℕ). l ++ file_text_by c.args.rule file) c.new-text.ensures in
    c.into_text.ensures.value ∙ ap text_of (elim c.match-counted.branch [
      | in-Ok w ↦
          let few = few_records _ file bytes _ refl _ _ x.buffer_after _ w.in-Ok.is in
          let same = text_taken c.schedule_by-counted.new.buffer w.record_count.result w.in-Ok.count (omega (arith, few, w.record_count.ensures, c.schedule_by-counted.auto.buffer)) in
          let all = same ∙ scheduled_text _ file bytes _ refl _ _ x.buffer_after _ w.in-Ok.is _ w.record_count.ensures in
          w.text-is ∙ w.write_blocks.ensures ∙ ap (λ (l : List ℕ). c.new-text.result ++ l) all ∙ none
      | in-Err w ↦
          let all = refusal_text _ file bytes _ refl _ _ x.buffer_after _ (x.not_scheduled _ w.in-Err.is) in
          w.text-is ∙ w.write_refusal.ensures ∙ ap (λ (l : List ℕ). c.new-text.result ++ l) all ∙ none
    ])
