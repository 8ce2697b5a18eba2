use Rattle.connection_channel.proofs.crew.crew_of.Goals as goal

pub desks_of-requires : goal.desks_of-requires
desks_of-requires g c = record { room = c.requires.room }

pub returns-clause-handlers : goal.returns-clause-handlers
returns-clause-handlers g c = c.in_ok-desks.ensures.handlers

pub returns-clause-room : goal.returns-clause-room
returns-clause-room g c = c.in_ok-desks.ensures.room
