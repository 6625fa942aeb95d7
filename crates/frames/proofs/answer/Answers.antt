-- Each arm of the plan is a step of the definition. Assumes nothing.
use mathlib.Core.Path.{refl}
use Rattle.words.specs.Overlay.{overlay}
use Rattle.service.specs.Reads.{device_of}
use borrow.Author.Rules.{rules}
use Rattle.frames.proofs.answer.Goals as goal

pub read-requires : goal.read-requires
read-requires c =
    let f = rw c.in-Reading.is at c.requires.2 in
    (search rules, f.most, f.block)

pub write-requires : goal.write-requires
write-requires c =
    let f = rw c.in-Writing.is at c.requires.2 in
    (search rules, f.long, c.requires.1, f.located.owner_most, f.located.device)

pub returns-in-Bad : goal.returns-in-Bad
unfolding overlay device_of
returns-in-Bad c = simp (c.counted.ensures, c.in-Bad.is) record { value = refl; reply_after = refl; volume_after = refl }

pub returns-in-Foreign : goal.returns-in-Foreign
unfolding overlay device_of
returns-in-Foreign c = simp (c.counted-in-Foreign.ensures, c.in-Foreign.is) record { value = refl; reply_after = refl; volume_after = refl }

pub returns-in-BroadcastRead : goal.returns-in-BroadcastRead
unfolding overlay device_of
returns-in-BroadcastRead c = simp (c.counted-in-BroadcastRead.ensures, c.in-BroadcastRead.is) record { value = refl; reply_after = refl; volume_after = refl }

pub returns-in-Refused : goal.returns-in-Refused
unfolding device_of
returns-in-Refused c =
    let e = rw c.from.ensures at c.refuse.ensures.value in
    let b = rw c.from.ensures at c.refuse.ensures.reply_after in
    simp (c.counted-in-Refused.ensures, e, ← b, c.in-Refused.is) record { value = refl; reply_after = refl; volume_after = refl }

pub returns-in-Reading : goal.returns-in-Reading
unfolding device_of
returns-in-Reading c =
    let e = rw c.device.ensures at c.read.ensures.value in
    let b = rw c.device.ensures at c.read.ensures.reply_after in
    simp (c.counted-in-Reading.ensures, e, ← b, c.in-Reading.is) record { value = refl; reply_after = refl; volume_after = refl }

pub returns-in-Writing : goal.returns-in-Writing
returns-in-Writing c =
    simp (c.in-Writing.is, ← c.device-in-Writing.ensures) c.write.ensures
