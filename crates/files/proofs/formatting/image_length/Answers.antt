-- `files::formatting::image_length` meets its contract: within the limits no test is true.
use Rattle.std.proofs.Common.{arith}
use Rattle.layout.proofs.Limits.{limits, map-words}
use Rattle.files.proofs.formatting.image_length.Goals.{then-p-via-then-p, then-p-via-else-p+then-c, then-p-via-else-p+else-c+then-m}
use Rattle.files.proofs.formatting.image_length.Goals as goal

pub returns-then-p-clause-value : goal.returns-then-p-clause-value
returns-then-p-clause-value c = λ n reserved h.
    let l = limits _ h in
    absurd (elim c.then-p.branch [ then-p-via-then-p w ↦ omega arith | then-p-via-else-p+then-c w ↦ omega arith | then-p-via-else-p+else-c+then-m w ↦ omega arith ])

pub returns-clause-value : goal.returns-clause-value
returns-clause-value c =
    let a = c.args in
    λ n reserved h. rw (map-words (record { edition = a.edition; p = a.p; c = a.c; m = a.m; n = n; r = reserved }))
