use Rattle.std.proofs.Common.{◌≡◌, length, take, ap, ◌∙◌, arith}
use Rattle.std.proofs.lemmas.List.{take_at}
use Rattle.model.proofs.Pages.{ok_page, err_page}
use Rattle.model.proofs.page.page_of.Goals as goal

pub returns-in-Ok : goal.returns-in-Ok
returns-in-Ok c =
    let room : length c.as_mut_slice.result.now ≡ 65536 = omega (arith, c.as_mut_slice.ensures.len, c.in_ok-out.ensures.len) in
    let after = c.write.new.out in
    let long : length after ≡ c.in_ok-out.out.len = omega (arith, c.write.auto.out, c.as_mut_slice.ensures.len) in
    c.truncate.ensures.items ∙ ap (take c.in-Ok.length) (take_at after _ _ long) ∙ ok_page _ after room _ _ c.in-Ok.ensures.exact

pub returns-in-Err : goal.returns-in-Err
returns-in-Err c =
    let room : length c.as_mut_slice.result.now ≡ 65536 = omega (arith, c.as_mut_slice.ensures.len, c.in_ok-out.ensures.len) in
    rw (← (err_page _ _ room _ _ c.in-Err.ensures.exact)) c.refusal_line.ensures
