-- What a client says in the handshake, as the reader tells it.
use Rattle.guac_instr.specs.declared.hello.Hello.{Hello}
use Rattle.guac_instr.specs.declared.hello.Hello.TheVariants.{Select, Size, Connect, Other}
use Rattle.gate_model.specs.text.HelloMeaning.{Greeting, Selects, HasSize, Connects, SaysOther}

abbrev pub said : Hello → Greeting
said (Select name) = Selects name.now
said (Size width height) = HasSize width height
said Connect = Connects
said Other = SaysOther
