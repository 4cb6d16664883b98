use Rattle.std.proofs.Common.{◌<◌, sym, ◌∙◌, rules}
use Rattle.std.proofs.lemmas.Result.{err_from_is_err_and}
use Rattle.queries.proofs.QueryLaws.{sound_ok}
use Rattle.host.proofs.NodeLaws.{got_beyond, got_unsound}
use Rattle.host.proofs.accessing.get_node.Goals as goal

pub returns-in_err-check_sound : goal.returns-in_err-check_sound
returns-in_err-check_sound c =
    let p = err_from_is_err_and c.from_residual.result c.from_residual.ensures.1 in
    rw (p.1, p.2) (got_unsound _ _ _ (sym c.check_sound.ensures.value ∙ c.in_err-check_sound.was))

pub returns-in_default : goal.returns-in_default
returns-in_default c =
    let far : 65535 < c.args.node = search rules in
    got_beyond _ _ far (sound_ok _ _ (sym c.check_sound.ensures.value ∙ c.in_ok-check_sound.was))
