use Rattle.std.proofs.Common.{map}
use Rattle.std.specs.String.{string_bytes}
use Rattle.h2_checkpoint.specs.Stands.{disk_state}
use Rattle.h2_cmd.specs.declared.command_line.Request.TheVariants.{Format}
use Rattle.h2_cmd.specs.Lines.{sink_state}
use Rattle.h2_cmd.specs.Run.{Run}
use Rattle.h2_cmd.proofs.Endings.{known, front_of, whole_of, made_of, refusal_line, asks_served, ends_format, cuts_format, elsewhere_format, untouched_format}
use Rattle.h2_cmd.proofs.run.run_alone.Goals as goal

pub run_request-status-requires : goal.run_request-status-requires
run_request-status-requires g c = asks_served (map string_bytes c.args.words.now) c.in-Some.request c.in-Some.ensures

pub returns-in-Some-clause-known : goal.returns-in-Some-clause-known
returns-in-Some-clause-known g c = known c.code.result c.run_request-status.result c.code.ensures

pub returns-in-Some-clause-sink_fault_line : goal.returns-in-Some-clause-sink_fault_line
returns-in-Some-clause-sink_fault_line g c = λ zones asks four tells.
    let run : Run = record {
      disk_tells = g.D.Disk.tells;
      disk_old = disk_state g.D.Disk.image g.D.Disk.moment g.D.Disk.trace c.args.disk;
      disk_new = disk_state g.D.Disk.image g.D.Disk.moment g.D.Disk.trace c.run_request-status.new.disk;
      disk_faults_old = g.D.Disk.faults c.args.disk;
      disk_faults_new = g.D.Disk.faults c.run_request-status.new.disk;
      sink_tells = g.K.Sink.tells;
      sink_old = sink_state g.K.Sink.held g.K.Sink.faults c.args.out.now;
      sink_new = sink_state g.K.Sink.held g.K.Sink.faults c.run_request-status.new.out;
    } in
    let ends = ends_format (map string_bytes c.args.words.now) c.in-Some.request c.in-Some.ensures zones asks run c.run_request-status.result c.run_request-status.ensures.ends in
    front_of zones run c.code.result c.run_request-status.result ends c.code.ensures four tells

pub returns-in-Some-clause-formatted_line : goal.returns-in-Some-clause-formatted_line
returns-in-Some-clause-formatted_line g c = λ zones asks done tells.
    let run : Run = record {
      disk_tells = g.D.Disk.tells;
      disk_old = disk_state g.D.Disk.image g.D.Disk.moment g.D.Disk.trace c.args.disk;
      disk_new = disk_state g.D.Disk.image g.D.Disk.moment g.D.Disk.trace c.run_request-status.new.disk;
      disk_faults_old = g.D.Disk.faults c.args.disk;
      disk_faults_new = g.D.Disk.faults c.run_request-status.new.disk;
      sink_tells = g.K.Sink.tells;
      sink_old = sink_state g.K.Sink.held g.K.Sink.faults c.args.out.now;
      sink_new = sink_state g.K.Sink.held g.K.Sink.faults c.run_request-status.new.out;
    } in
    let ends = ends_format (map string_bytes c.args.words.now) c.in-Some.request c.in-Some.ensures zones asks run c.run_request-status.result c.run_request-status.ensures.ends in
    whole_of zones run c.code.result c.run_request-status.result ends c.code.ensures done tells

pub returns-in-Some-clause-formatted : goal.returns-in-Some-clause-formatted
returns-in-Some-clause-formatted g c = λ zones asks which tells.
    let run : Run = record {
      disk_tells = g.D.Disk.tells;
      disk_old = disk_state g.D.Disk.image g.D.Disk.moment g.D.Disk.trace c.args.disk;
      disk_new = disk_state g.D.Disk.image g.D.Disk.moment g.D.Disk.trace c.run_request-status.new.disk;
      disk_faults_old = g.D.Disk.faults c.args.disk;
      disk_faults_new = g.D.Disk.faults c.run_request-status.new.disk;
      sink_tells = g.K.Sink.tells;
      sink_old = sink_state g.K.Sink.held g.K.Sink.faults c.args.out.now;
      sink_new = sink_state g.K.Sink.held g.K.Sink.faults c.run_request-status.new.out;
    } in
    let ends = ends_format (map string_bytes c.args.words.now) c.in-Some.request c.in-Some.ensures zones asks run c.run_request-status.result c.run_request-status.ensures.ends in
    (made_of zones run c.code.result c.run_request-status.result ends c.code.ensures which).made tells

pub returns-in-Some-clause-moments : goal.returns-in-Some-clause-moments
returns-in-Some-clause-moments g c = λ zones asks which.
    let run : Run = record {
      disk_tells = g.D.Disk.tells;
      disk_old = disk_state g.D.Disk.image g.D.Disk.moment g.D.Disk.trace c.args.disk;
      disk_new = disk_state g.D.Disk.image g.D.Disk.moment g.D.Disk.trace c.run_request-status.new.disk;
      disk_faults_old = g.D.Disk.faults c.args.disk;
      disk_faults_new = g.D.Disk.faults c.run_request-status.new.disk;
      sink_tells = g.K.Sink.tells;
      sink_old = sink_state g.K.Sink.held g.K.Sink.faults c.args.out.now;
      sink_new = sink_state g.K.Sink.held g.K.Sink.faults c.run_request-status.new.out;
    } in
    let ends = ends_format (map string_bytes c.args.words.now) c.in-Some.request c.in-Some.ensures zones asks run c.run_request-status.result c.run_request-status.ensures.ends in
    (made_of zones run c.code.result c.run_request-status.result ends c.code.ensures which).moments

pub returns-in-Some-clause-cuts : goal.returns-in-Some-clause-cuts
returns-in-Some-clause-cuts g c = λ zones asks tells durable none.
    cuts_format (map string_bytes c.args.words.now) c.in-Some.request c.in-Some.ensures zones asks (disk_state g.D.Disk.image g.D.Disk.moment g.D.Disk.trace c.args.disk) (disk_state g.D.Disk.image g.D.Disk.moment g.D.Disk.trace c.run_request-status.new.disk)
    (c.run_request-status.ensures.cuts tells durable none)

pub returns-in-Some-clause-elsewhere : goal.returns-in-Some-clause-elsewhere
returns-in-Some-clause-elsewhere g c = λ zones asks tells.
    elsewhere_format (map string_bytes c.args.words.now) c.in-Some.request c.in-Some.ensures zones asks (g.D.Disk.image c.args.disk) (g.D.Disk.image c.run_request-status.new.disk)
    (c.run_request-status.ensures.elsewhere tells)

pub returns-in-Some-clause-untouched : goal.returns-in-Some-clause-untouched
returns-in-Some-clause-untouched g c = λ zones asks tells.
    untouched_format (map string_bytes c.args.words.now) c.in-Some.request c.in-Some.ensures zones asks (disk_state g.D.Disk.image g.D.Disk.moment g.D.Disk.trace c.args.disk) (disk_state g.D.Disk.image g.D.Disk.moment g.D.Disk.trace c.run_request-status.new.disk)
    (c.run_request-status.ensures.untouched tells)

pub returns-in-None-clause-known : goal.returns-in-None-clause-known
returns-in-None-clause-known g c = known c.code-in-None.result c.say_refusal-status.result c.code-in-None.ensures

pub returns-in-None-clause-usage_line : goal.returns-in-None-clause-usage_line
returns-in-None-clause-usage_line g c = λ one tells. refusal_line _ c.code-in-None.result c.say_refusal-status.result c.say_refusal-status.ensures.said c.code-in-None.ensures one tells

pub returns-in-None-clause-complete : goal.returns-in-None-clause-complete
returns-in-None-clause-complete g c = λ zones asks. absurd (c.in-None.ensures (Format zones) asks)

pub returns-in-None-clause-cuts : goal.returns-in-None-clause-cuts
returns-in-None-clause-cuts g c = λ zones asks. absurd (c.in-None.ensures (Format zones) asks)

pub returns-in-None-clause-untouched : goal.returns-in-None-clause-untouched
returns-in-None-clause-untouched g c = λ zones asks. absurd (c.in-None.ensures (Format zones) asks)
