-- How a sink's fault stops an answer.
use Rattle.av_io.specs.declared.traits.SinkFault.{SinkFault}
use Rattle.av_io.specs.declared.traits.SinkFault.TheVariants as fault
use Rattle.av_session.specs.declared.stop.Stop.{Stop}
use Rattle.av_session.specs.declared.stop.Stop.TheVariants as stop

abbrev pub stop_of : SinkFault → Stop
stop_of fault.Failed = stop.WriteFault
stop_of fault.Memory = stop.Memory
