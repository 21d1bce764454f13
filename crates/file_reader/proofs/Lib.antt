mod Lines
mod Refused
mod Steps
