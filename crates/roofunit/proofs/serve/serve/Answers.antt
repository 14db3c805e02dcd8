use Rattle.roofunit.proofs.Looks.{look_served}
use Rattle.roofunit.proofs.serve.serve.Goals as goal

pub returns-in-Look : goal.returns-in-Look
returns-in-Look g c = look_served (g.S.Shelf.meaning c.args.shelf.now) c.args.command c.in-Look.coverage c.in-Look.at c.look.result c.look_reply.result c.in-Look.is c.look.ensures c.look_reply.ensures
