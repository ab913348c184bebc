use Rattle.std.proofs.Common.{refl, inl, inr, ◌∙◌}
use Rattle.h2_checkpoint.specs.Stands.{disk_state}
use Rattle.h2_cmd.proofs.Slots.{cuts_nothing}
use Rattle.h2_cmd.proofs.Kept.{makes_too, cuts_too, elsewhere_too, finds, cuts_read, elsewhere_read, unchanged_read, none_found, none_left, cause_later, may_want, may_want_later}
use Rattle.h2_cmd.proofs.formatting.format_volume.Goals as goal

pub returns-in_default-clause-cuts : goal.returns-in_default-clause-cuts
returns-in_default-clause-cuts g c = λ tells durable none.
    cuts_nothing c.args.zones (disk_state g.D.Disk.image g.D.Disk.moment g.D.Disk.trace c.args.disk.now) (disk_state g.D.Disk.image g.D.Disk.moment g.D.Disk.trace c.args.disk.now)
    refl (g.met.D.Disk.trace_past c.args.disk.now) durable none

pub returns-in_default-clause-untouched : goal.returns-in_default-clause-untouched
returns-in_default-clause-untouched g c = λ tells. inr (record { image = λ k. refl; trace = refl; moment = refl })

pub returns-in_default-clause-memory : goal.returns-in_default-clause-memory
returns-in_default-clause-memory g c = inl refl

pub returns-in-Err-clause-memory : goal.returns-in-Err-clause-memory
returns-in-Err-clause-memory g c = may_want _ _ c.in-Err.fault c.in-Err.ensures.memory

pub returns-in-Err-clause-cuts : goal.returns-in-Err-clause-cuts
returns-in-Err-clause-cuts g c = λ tells durable none.
    cuts_read c.args.zones (g.D.Disk.image c.args.disk.now) (g.D.Disk.image c.find_newest.new.disk) (g.D.Disk.moment c.args.disk.now) (g.D.Disk.moment c.find_newest.new.disk) (g.D.Disk.trace c.args.disk.now) (g.D.Disk.trace c.find_newest.new.disk)
    (c.find_newest.ensures.keeps tells) c.find_newest.ensures.time (g.met.D.Disk.trace_past c.args.disk.now) durable none

pub returns-in-Err-clause-elsewhere : goal.returns-in-Err-clause-elsewhere
returns-in-Err-clause-elsewhere g c = λ tells.
    elsewhere_read c.args.zones (g.D.Disk.image c.args.disk.now) (g.D.Disk.image c.find_newest.new.disk) (g.D.Disk.moment c.args.disk.now) (g.D.Disk.moment c.find_newest.new.disk) (g.D.Disk.trace c.args.disk.now) (g.D.Disk.trace c.find_newest.new.disk)
    (c.find_newest.ensures.keeps tells) c.find_newest.ensures.time

pub returns-in-Err-clause-untouched : goal.returns-in-Err-clause-untouched
returns-in-Err-clause-untouched g c = λ tells.
    unchanged_read c.args.zones (g.D.Disk.image c.args.disk.now) (g.D.Disk.image c.find_newest.new.disk) (g.D.Disk.moment c.args.disk.now) (g.D.Disk.moment c.find_newest.new.disk) (g.D.Disk.trace c.args.disk.now) (g.D.Disk.trace c.find_newest.new.disk)
    (c.find_newest.ensures.keeps tells) c.find_newest.ensures.time

pub returns-in-Some-clause-does : goal.returns-in-Some-clause-does
returns-in-Some-clause-does g c = λ tells.
    finds c.args.zones (g.D.Disk.image c.args.disk.now) (g.D.Disk.image c.find_newest.new.disk) (g.D.Disk.moment c.args.disk.now) (g.D.Disk.moment c.find_newest.new.disk) (g.D.Disk.trace c.args.disk.now) (g.D.Disk.trace c.find_newest.new.disk)
    (c.find_newest.ensures.keeps tells) c.find_newest.ensures.time c.in-Some.number c.in-Ok-find_newest.found (c.in-Ok-find_newest.ensures.number tells) c.in-Some.is

pub returns-in-Some-clause-elsewhere : goal.returns-in-Some-clause-elsewhere
returns-in-Some-clause-elsewhere g c = λ tells.
    elsewhere_read c.args.zones (g.D.Disk.image c.args.disk.now) (g.D.Disk.image c.find_newest.new.disk) (g.D.Disk.moment c.args.disk.now) (g.D.Disk.moment c.find_newest.new.disk) (g.D.Disk.trace c.args.disk.now) (g.D.Disk.trace c.find_newest.new.disk)
    (c.find_newest.ensures.keeps tells) c.find_newest.ensures.time

pub returns-in-Some-clause-untouched : goal.returns-in-Some-clause-untouched
returns-in-Some-clause-untouched g c = λ tells.
    unchanged_read c.args.zones (g.D.Disk.image c.args.disk.now) (g.D.Disk.image c.find_newest.new.disk) (g.D.Disk.moment c.args.disk.now) (g.D.Disk.moment c.find_newest.new.disk) (g.D.Disk.trace c.args.disk.now) (g.D.Disk.trace c.find_newest.new.disk)
    (c.find_newest.ensures.keeps tells) c.find_newest.ensures.time

pub returns-in-Err-make_volume-clause-cuts : goal.returns-in-Err-make_volume-clause-cuts
returns-in-Err-make_volume-clause-cuts g c = λ tells.
    cuts_too c.args.zones (g.D.Disk.image c.args.disk.now) (g.D.Disk.image c.find_newest.new.disk) (g.D.Disk.moment c.args.disk.now) (g.D.Disk.moment c.find_newest.new.disk) (g.D.Disk.trace c.args.disk.now) (g.D.Disk.trace c.find_newest.new.disk)
    (c.find_newest.ensures.keeps tells) c.find_newest.ensures.time (disk_state g.D.Disk.image g.D.Disk.moment g.D.Disk.trace c.make_volume.new.disk) (c.make_volume.ensures.cuts tells)

pub returns-in-Err-make_volume-clause-elsewhere : goal.returns-in-Err-make_volume-clause-elsewhere
returns-in-Err-make_volume-clause-elsewhere g c = λ tells.
    elsewhere_too c.args.zones (g.D.Disk.image c.args.disk.now) (g.D.Disk.image c.find_newest.new.disk) (g.D.Disk.moment c.args.disk.now) (g.D.Disk.moment c.find_newest.new.disk) (g.D.Disk.trace c.args.disk.now) (g.D.Disk.trace c.find_newest.new.disk)
    (c.find_newest.ensures.keeps tells) c.find_newest.ensures.time (g.D.Disk.image c.make_volume.new.disk) (c.make_volume.ensures.elsewhere tells)

pub returns-in-Err-make_volume-clause-untouched : goal.returns-in-Err-make_volume-clause-untouched
returns-in-Err-make_volume-clause-untouched g c = λ tells.
    none_left (disk_state g.D.Disk.image g.D.Disk.moment g.D.Disk.trace c.args.disk.now) (disk_state g.D.Disk.image g.D.Disk.moment g.D.Disk.trace c.make_volume.new.disk)
    c.in-Ok-find_newest.found (c.in-Ok-find_newest.ensures.number tells) c.in_default-found.not-Some

pub returns-in-Err-make_volume-clause-cause : goal.returns-in-Err-make_volume-clause-cause
returns-in-Err-make_volume-clause-cause g c = cause_later (g.D.Disk.faults c.args.disk.now) (g.D.Disk.faults c.find_newest.new.disk) (g.D.Disk.faults c.make_volume.new.disk) c.in-Err-make_volume.fault
    c.find_newest.ensures.later c.in-Err-make_volume.ensures.cause

pub returns-in-Err-make_volume-clause-memory : goal.returns-in-Err-make_volume-clause-memory
returns-in-Err-make_volume-clause-memory g c = may_want_later _ _ _ c.in-Err-make_volume.fault c.in-Ok-find_newest.ensures.memory c.in-Err-make_volume.ensures.memory

pub returns-clause-memory : goal.returns-clause-memory
returns-clause-memory g c = c.in_default-make_volume.ensures.memory ∙ c.in-Ok-find_newest.ensures.memory

pub returns-clause-does : goal.returns-clause-does
returns-clause-does g c = λ tells.
    makes_too c.args.zones (g.D.Disk.image c.args.disk.now) (g.D.Disk.image c.find_newest.new.disk) (g.D.Disk.moment c.args.disk.now) (g.D.Disk.moment c.find_newest.new.disk) (g.D.Disk.trace c.args.disk.now) (g.D.Disk.trace c.find_newest.new.disk)
    (c.find_newest.ensures.keeps tells) c.find_newest.ensures.time (disk_state g.D.Disk.image g.D.Disk.moment g.D.Disk.trace c.make_volume.new.disk) (c.in_default-make_volume.ensures.makes tells) (none_found (g.D.Disk.image c.args.disk.now) c.in-Ok-find_newest.found (c.in-Ok-find_newest.ensures.number tells) c.in_default-found.not-Some)

pub returns-clause-cuts : goal.returns-clause-cuts
returns-clause-cuts g c = λ tells.
    cuts_too c.args.zones (g.D.Disk.image c.args.disk.now) (g.D.Disk.image c.find_newest.new.disk) (g.D.Disk.moment c.args.disk.now) (g.D.Disk.moment c.find_newest.new.disk) (g.D.Disk.trace c.args.disk.now) (g.D.Disk.trace c.find_newest.new.disk)
    (c.find_newest.ensures.keeps tells) c.find_newest.ensures.time (disk_state g.D.Disk.image g.D.Disk.moment g.D.Disk.trace c.make_volume.new.disk) (c.make_volume.ensures.cuts tells)

pub returns-clause-elsewhere : goal.returns-clause-elsewhere
returns-clause-elsewhere g c = λ tells.
    elsewhere_too c.args.zones (g.D.Disk.image c.args.disk.now) (g.D.Disk.image c.find_newest.new.disk) (g.D.Disk.moment c.args.disk.now) (g.D.Disk.moment c.find_newest.new.disk) (g.D.Disk.trace c.args.disk.now) (g.D.Disk.trace c.find_newest.new.disk)
    (c.find_newest.ensures.keeps tells) c.find_newest.ensures.time (g.D.Disk.image c.make_volume.new.disk) (c.make_volume.ensures.elsewhere tells)

pub returns-clause-untouched : goal.returns-clause-untouched
returns-clause-untouched g c = λ tells.
    none_left (disk_state g.D.Disk.image g.D.Disk.moment g.D.Disk.trace c.args.disk.now) (disk_state g.D.Disk.image g.D.Disk.moment g.D.Disk.trace c.make_volume.new.disk)
    c.in-Ok-find_newest.found (c.in-Ok-find_newest.ensures.number tells) c.in_default-found.not-Some
