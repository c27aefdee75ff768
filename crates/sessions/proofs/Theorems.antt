-- The theorems of this crate that a reader wants: nothing else cites them.
use Rattle.layout.specs.Layout.{shape_of}
use Rattle.image.specs.Loading.{loaded}
use Rattle.layout.specs.Format.{format_image}
use Rattle.image.proofs.Theorems.{passed-is-sound, sound-is-passed, format-is-sound}
use Rattle.indexed.specs.Calls.{index_of}
use Rattle.indexed.specs.Opening.{open_sets}
use Rattle.indexed.proofs.Currents.{open-passed, open-current}
use Rattle.durable.proofs.History.{kept-from-sound}
use Rattle.durable.proofs.Theorems.{demand}
use Rattle.sessions.specs.Sessions.{SameFromCurrent, SameAfterLoad, SameAfterOpen, loaded_index}
use Rattle.sessions.specs.HeldEvents.{SameRuns, NextWillDo, KeptWithIndex, DemandWithIndex}
use Rattle.sessions.proofs.Calling.{same-calls, accepted-load, load-current}
use Rattle.sessions.proofs.Running.{next-landed, same_runs}

-- ---- "answers and bytes equal those of the scanning calls"

-- Of every list of calls that begins with a current index.
pub same-from-current : SameFromCurrent
same-from-current = same-calls

-- Of every list of calls that begins with an accepted load.
pub same-after-load : SameAfterLoad
same-after-load s ks b e =
    let p = accepted-load s e in same-calls (shape_of s) (loaded_index (loaded s)) s ks (passed-is-sound s b p) (load-current s p)

pub same-after-open : SameAfterOpen
same-after-open s sets g ks b e =
    same-calls (shape_of s) (index_of g (open_sets s sets)) s ks (passed-is-sound s b (open-passed s sets g e)) (open-current s sets g e)

-- ---- demand 3 with the index

-- Every list of events leaves the same volume and has the same outcomes as without it, and the index is current afterwards.
pub same-events : SameRuns
same-events = same_runs

-- A caller that carried out a part of a plan without a crash need not load.
pub next-will-do : NextWillDo
next-will-do A g ix v e z c h = next-landed g ix v e z c h

-- So all that demand 3 says holds of these events too,
pub kept-with-index : KeptWithIndex
kept-with-index A g ix start l es z c h = (same_runs A g ix start es z c, kept-from-sound A g start l es z h)

-- also of a volume that was just formatted.
pub demand-with-index : DemandWithIndex
demand-with-index A g buffer content es w =
    let s = format_image g buffer in
    let z = format-is-sound g buffer w in (
      same_runs A g (loaded_index (loaded s)) (record { image = s; content = content }) es z (load-current s (sound-is-passed g s z).0),
      demand A g buffer content es w,
    )
