use Rattle.wasi_winrules.proofs.NameFacts.{port_device_numbered, port_device_unnumbered}
use Rattle.wasi_winrules.proofs.device.is_port_device.Goals as goal

pub returns-then-is_port_number : goal.returns-then-is_port_number
returns-then-is_port_number c =
    port_device_numbered c.args.name.now c.in-Some.port.now c.in-Some.number.now c.is_port.result c.is_port_number.result
    c.in-Some.ensures.cases.0 c.if-is_port_number.true c.is_port_number.ensures c.is_port.ensures

pub returns-else-is_port_number : goal.returns-else-is_port_number
returns-else-is_port_number c =
    port_device_unnumbered c.args.name.now c.in-Some.port.now c.in-Some.number.now c.is_port_number.result
    c.in-Some.ensures.cases.0 c.if-is_port_number.false c.is_port_number.ensures
