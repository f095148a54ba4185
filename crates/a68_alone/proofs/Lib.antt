mod CallActs
mod GoingAlone
mod Joining
mod Roomy
mod Rounds
mod Turned
