-- The content that passes is that of the image.
use Rattle.std.proofs.Common.{◌≡◌, rules}
use Rattle.tau_scan.proofs.Contents.{passed}
use Rattle.tau_scan.proofs.content.content_in.Goals as goal

pub returns-in-Ok-clause-is : goal.returns-in-Ok-clause-is
returns-in-Ok-clause-is c =
    let at : c.from.result ≡ c.args.j = search rules in
    passed c.args.format c.args.n c.from.result c.args.j c.args.image.now c.in-Ok.content at c.in-Ok.ensures.ok c.in-Ok.ensures.gate c.in-Ok.ensures.stated c.in-Ok.ensures.unborn c.in-Ok.ensures.short c.in-Ok.ensures.before
    c.formatted.result c.formatted.ensures.found c.formatted.ensures.same
