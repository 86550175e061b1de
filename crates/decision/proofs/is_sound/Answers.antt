-- `decision::is_sound` meets its contract: its five tests are those of the definition.
use Rattle.std.proofs.Common.{◌≡◌, ◌&&◌, ◌∙◌, sym, length, leb, arith}
use Rattle.decision.specs.Decided.{undamaged_in}
use Rattle.decision.proofs.WholeLaws.{checked_whole}
use Rattle.decision.proofs.is_sound.Goals as goal

pub returns : goal.returns
unfolding undamaged_in
returns c =
    let a = c.args in
    let live : length a.core.live.stamps ≡ 32 = omega arith in
    let marks : length a.marks.now ≡ 64 = omega arith in
    let is : (leb 4 a.core.used.0 && leb a.core.used.0 a.room && c.is_intact.result && c.marks_sound.result && c.columns_sound.result) ≡ undamaged_in a.core a.room a.marks.now a.versions.now =
    rw (c.is_intact.ensures, c.marks_sound.ensures, c.columns_sound.ensures.is) in
    record {
      is = is;
      whole = λ h. checked_whole a.core a.room a.marks.now a.versions.now live marks (λ q. c.columns_sound.ensures.undamaged (c.columns_sound.ensures.is ∙ q)) c.requires (sym is ∙ h);
    }
