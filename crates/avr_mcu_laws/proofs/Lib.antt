mod Found
mod Vectors
mod Cuts
mod DeviceCuts
mod StepCuts
mod Ends
