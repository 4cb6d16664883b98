use Rattle.std.proofs.Common.{refl, sym, arith}
use Rattle.registers.proofs.RegisterArrays.{there_fits}
use Rattle.registers.proofs.RegisterDefinitions.{mark_begin, mark_skip, mark_set, mark_done}
use Rattle.registers.proofs.entries.RegisterMap.mark.Goals as goal
use Rattle.registers.proofs.entries.RegisterMap.mark.Goals.{then-self-p+then-self-p-2, else-self-p, else-self-p-via-then-self-p+else-self-p-2, else-self-p-via-else-self-p}

pub loop-p-init : goal.loop-p-init
loop-p-init c = record { all = refl; marking = mark_begin _ _ _ _ c.args.d.few c.args.self.now.fits }

pub invariant_of-self : goal.invariant_of-self
invariant_of-self c = record { fits = there_fits _ c.loop-p.self.fits (record { name = c.args.d.name; index = _ }) c.args.d.v.0 _ (omega arith) (c.if-self-p.true, refl) }

pub loop-p-preserved : goal.loop-p-preserved
loop-p-preserved c =
    let i = c.loop-p.invariant in
    elim c.if-self-p.branch [
      | then-self-p+then-self-p-2 w ↦ rw (w.self-is, w.there-is) (record {
        all = i.all;
        marking = mark_set _ _ _ _ i.marking (omega arith) c.loop-p.self.fits _ w.if-self-p.true (sym w.from.ensures) (omega arith);
      })
      | else-self-p w ↦ rw (w.self-is, w.there-is) (record {
        all = i.all;
        marking = mark_skip _ _ _ _ i.marking (omega arith) (λ e h. elim w.else-self-p.branch [
          | else-self-p-via-then-self-p+else-self-p-2 u ↦ absurd (omega arith)
          | else-self-p-via-else-self-p u ↦ u.if-self-p.false e
        ]);
      })
    ]

pub returns : goal.returns
returns c = mark_done _ _ _ _ c.loop-p.invariant.marking (omega arith)
