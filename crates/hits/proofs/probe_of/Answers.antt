-- The function `probe_of` is the definition `probe_of`. The query's symbols are in range, so that its signature is that of the query itself.
use mathlib.Core.Path.{refl, ◌∙◌}
use Rattle.signature.proofs.Rows.{signature-same}
use Rattle.hits.proofs.probe_of.Goals as goal

pub returns : goal.returns
returns c =
    let right = c.signature_of-signature.ensures ∙ signature-same c.args.h.b c.args.query.now c.requires.fits.range in
    rw (c.filter_for.ensures, right, c.shape_of.ensures) refl
