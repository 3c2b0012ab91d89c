-- `element::fields::put_contents` meets its contract: one component after the other.
use Rattle.element.specs.Write.{contents_octets}
use Rattle.element.proofs.Writing.{puts_join}
use Rattle.element.proofs.fields.put_contents.Goals as goal

pub returns-clause-put : goal.returns-clause-put
unfolding contents_octets
returns-clause-put c =
    puts_join c.put_remote-at.ensures.put
    (puts_join c.put_protocol-at.ensures.put
    (puts_join c.put_port-at.ensures.put
    (puts_join c.put_port-at-2.ensures.put (puts_join c.put_index-at.ensures.put (puts_join c.put_class-at.ensures.put c.put_label.ensures.put)))))
